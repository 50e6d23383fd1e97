-- What the content of a heard slot says to a unit: each definition is one sentence of the standard.
use Rattle.std.specs.Prelude.{ℕ, Bool, true, false, cond, not, ◌&&◌, ◌||◌, Some, None, Option, ◌==◌}
use Rattle.signalling.specs.declared.content.Content.{Content}
use Rattle.signalling.specs.declared.content.Content.TheVariants.{Deaf, Data, Aloha, Reply, Go, Ahy, Ahyq, Head, Mark, Bcast, Move, Other}
use Rattle.signalling.specs.declared.content.Noted.{Noted}
use Rattle.signalling.specs.Division.{applicable}
use Rattle.signalling.specs.Tables.{four_bit_length, two_bit_length, wait_of}

-- the return slots of the frame that a content marks, 0 for none: Aloha messages, acknowledgements and Go To Channel carry an Aloha number (7.2.1, 7.3.3)
abbrev pub marked : Content → ℕ
marked Deaf = 0
marked (Data rsa mine) = 0
marked (Aloha function number wt d) = four_bit_length number
marked (Reply kind qual number first to) = four_bit_length number
marked (Go to partner channel number) = two_bit_length number
marked (Ahy ad to) = 0
marked (Ahyq ipfixi to) = 0
marked (Head to) = 0
marked Mark = 0
marked Bcast = 0
marked (Move d channel) = 0
marked Other = 0

-- a unit notes function, division and delay from each Aloha message, one that marks no frame too (7.3.1, 7.3.2, 7.3.7)
abbrev pub noted : Content → Option Noted
noted Deaf = None
noted (Data rsa mine) = None
noted (Aloha fn number wt d) = Some (record { function = fn; division = d; wait = wait_of wt })
noted (Reply kind qual number first to) = None
noted (Go to partner channel number) = None
noted (Ahy ad to) = None
noted (Ahyq ipfixi to) = None
noted (Head to) = None
noted Mark = None
noted Bcast = None
noted (Move d channel) = None
noted Other = None

-- a move that applies to a unit orders it to another channel (7.4.2)
abbrev pub moved : Content → ℕ → Option ℕ
moved Deaf own = None
moved (Data rsa mine) own = None
moved (Aloha function number wt d) own = None
moved (Reply kind qual number first to) own = None
moved (Go to partner channel number) own = None
moved (Ahy ad to) own = None
moved (Ahyq ipfixi to) own = None
moved (Head to) own = None
moved Mark own = None
moved Bcast own = None
moved (Move d channel) own = cond (applicable d own) (Some channel) None
moved Other own = None

-- whether the return slot after this one is free for random access by a unit, or withdrawn (7.3.6; what cannot be decoded withdraws it)
abbrev pub leaves_free : Content → ℕ → Bool
leaves_free Deaf own = false
leaves_free (Data rsa mine) own = rsa == 1 && mine == 0
leaves_free (Aloha function number wt d) own = not (d.qualifier == 20) || applicable d own
leaves_free (Reply kind qual number first to) own = true
leaves_free (Go to partner channel number) own = true
leaves_free (Ahy ad to) own = ad == 1 && not (to == own)
leaves_free (Ahyq ipfixi to) own = ipfixi == 1 && not (to == own)
leaves_free (Head to) own = not (to == own)
leaves_free Mark own = true
leaves_free Bcast own = true
leaves_free (Move d channel) own = not (applicable d own)
leaves_free Other own = false
