-- The ranges of the numbers that a set is made with.
use Rattle.std.specs.Prelude.{ℕ, Bool, cond, ◌&&◌, Ok, Err, Result, nat_le}
use Rattle.signalling.specs.declared.refusal.Refusal.{Refusal}
use Rattle.signalling.specs.declared.refusal.Refusal.TheVariants.{Address, Channel, MostTransmissions, Timer, FirstDelay}
use Rattle.signalling.specs.Range.{address_in_range, channel_in_range}
use Rattle.rules.specs.declared.card.Card.{Card}

-- a timer runs for 1 to 60,000 slots
abbrev pub timer_in_range : ℕ → Bool
timer_in_range t = nat_le 1 t && nat_le t 60000

-- a request is transmitted 1 to 32 times at most
abbrev pub transmissions_in_range : ℕ → Bool
transmissions_in_range nr = nat_le 1 nr && nat_le nr 32

-- TC, TS and TJ are timers
abbrev pub timers_in_range : Card → Bool
timers_in_range card = timer_in_range card.tc && (timer_in_range card.ts && timer_in_range card.tj)

-- the numbers of a card and the channel to start on, judged in turn: address, channel, NR, the timers, NW
abbrev pub card_judged : Card → ℕ → Result (Unit {0}) Refusal
card_judged card channel =
    cond (address_in_range card.address)
    (cond (channel_in_range channel) (cond (transmissions_in_range card.nr) (cond (timers_in_range card) (cond (nat_le card.nw 15) (Ok tt) (Err FirstDelay)) (Err Timer)) (Err MostTransmissions)) (Err Channel))
    (Err Address)
