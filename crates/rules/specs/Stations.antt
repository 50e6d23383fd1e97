-- How a heard slot starts, keeps and ends a stay on a control channel, and what is noted in it.
use Rattle.std.specs.Prelude.{ℕ, ◌-◌, Bool, cond, Some, None, Option, nat_le}
use Rattle.std.specs.Option.{unwrap_or}
use Rattle.signalling.specs.declared.content.Content.{Content}
use Rattle.signalling.specs.declared.content.Function.TheVariants.{Alhx}
use Rattle.signalling.specs.declared.content.Heard.{Heard}
use Rattle.signalling.specs.declared.content.Noted.{Noted}
use Rattle.signalling.specs.Division.{division}
use Rattle.signalling.specs.Reading.{marked, moved, noted}
use Rattle.rules.specs.declared.card.Card.{Card}
use Rattle.rules.specs.declared.station.Stay.{Stay}
use Rattle.rules.specs.declared.station.Station.{Station}
use Rattle.rules.specs.Frames.{mark_of, no_frames, marking}

-- until an Aloha message is heard a set takes the function to be ALHX, the population undivided and the delay NW (7.3.1, 7.3.2, 7.3.7)
abbrev pub first_noted : ℕ → Noted
first_noted nw = record { function = Alhx; division = division 0 0; wait = nw }

-- a stay that begins: TS slots in a row without a system code would end it (6.2.1.2)
abbrev pub new_stay : Card → Stay
new_stay card = record { patience = card.ts; noted = first_noted card.nw; frames = no_frames }

-- a stay in which so many more slots without a code are borne
abbrev pub patient : Stay → ℕ → Stay
patient st n = record { patience = n; noted = st.noted; frames = st.frames }

-- a seeking set becomes active when it decodes a system code that the plan accepts (6.2.1.1)
abbrev pub acquired : (ℕ → Bool) → Card → Option ℕ → Option Stay
acquired accepts card None = None
acquired accepts card (Some code) = cond (accepts code) (Some (new_stay card)) None

-- an active set loses the channel by a code that the plan does not accept, or by the TS-th slot in a row without one (6.2.1.2)
abbrev pub retained : (ℕ → Bool) → Card → Stay → Option ℕ → Option Stay
retained accepts card st None = cond (nat_le st.patience 1) None (Some (patient st (st.patience - 1)))
retained accepts card st (Some code) = cond (accepts code) (Some (patient st card.ts)) None

-- the stay after the system code of a slot, or its absence
abbrev pub kept : (ℕ → Bool) → Card → Option Stay → Option ℕ → Option Stay
kept accepts card None code = acquired accepts card code
kept accepts card (Some st) code = retained accepts card st code

-- an Aloha message is noted, and a marker starts a frame under the function now noted (7.3.1, 7.3.2, 7.3.3, 7.3.7)
abbrev pub noting : Stay → Noted → ℕ → Stay
noting st n slots = record { patience = st.patience; noted = n; frames = marking st.frames (mark_of n.function slots) }

-- what a slot's content adds to a stay
abbrev pub heeding : Stay → Content → Stay
heeding st content = noting st (unwrap_or (noted content) st.noted) (marked content)

-- a set tuned to a channel, where it is not active yet
abbrev pub seeking_on : ℕ → Station
seeking_on ch = record { channel = ch; stay = None }

-- an active set obeys a move that applies to it: it leaves for the channel named (7.4.2); any other content adds to the stay
abbrev pub obeyed : Option ℕ → ℕ → Stay → Content → Station
obeyed None ch st content = record { channel = ch; stay = Some (heeding st content) }
obeyed (Some new) ch st content = seeking_on new

-- only a set that is active after the system code acts on the content (6.2.1.2)
abbrev pub acted : Option Stay → ℕ → Option ℕ → Content → Station
acted None ch order content = seeking_on ch
acted (Some st) ch order content = obeyed order ch st content

-- the station after a heard slot
abbrev pub followed : (ℕ → Bool) → Card → Station → Heard → Station
followed accepts card s h = acted (kept accepts card s.stay h.code) s.channel (moved h.content card.address) h.content
