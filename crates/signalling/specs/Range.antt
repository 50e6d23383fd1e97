-- The ranges of the numbers in a heard slot.
use Rattle.std.specs.Prelude.{ℕ, Bool, true, cond, ◌&&◌, Some, None, Ok, Err, Option, Result, nat_le}
use Rattle.signalling.specs.declared.content.Content.{Content}
use Rattle.signalling.specs.declared.content.Content.TheVariants.{Deaf, Data, Aloha, Reply, Go, Ahy, Ahyq, Head, Mark, Bcast, Move, Other}
use Rattle.signalling.specs.declared.content.FirstIdent.{FirstIdent}
use Rattle.signalling.specs.declared.content.FirstIdent.TheVariants.{Regi, Plain}
use Rattle.signalling.specs.declared.content.Heard.{Heard}
use Rattle.signalling.specs.declared.division.Division.{Division}
use Rattle.signalling.specs.declared.refusal.Refusal.{Refusal}
use Rattle.signalling.specs.declared.refusal.Refusal.TheVariants.{SystemCode, ContentField}

-- an address, prefix and ident together, has 20 bits
abbrev pub address_in_range : ℕ → Bool
address_in_range a = nat_le a 1048575

-- a channel number has 10 bits
abbrev pub channel_in_range : ℕ → Bool
channel_in_range ch = nat_le ch 1023

-- a system code has 15 bits; it may be absent
abbrev pub code_in_range : Option ℕ → Bool
code_in_range None = true
code_in_range (Some code) = nat_le code 32767

-- a plain ident has 13 bits
abbrev pub first_in_range : FirstIdent → Bool
first_in_range Regi = true
first_in_range (Plain ident) = nat_le ident 8191

-- an address qualifier M is at most 20, the bits of an address
abbrev pub division_in_range : Division → Bool
division_in_range d = nat_le d.qualifier 20 && address_in_range d.address

-- one-bit flags, Aloha numbers of four bits (two in Go To Channel), WT of three bits, divisions, addresses and channels
abbrev pub content_in_range : Content → Bool
content_in_range Deaf = true
content_in_range (Data rsa mine) = nat_le rsa 1 && nat_le mine 1
content_in_range (Aloha function number wt d) = nat_le number 15 && (nat_le wt 7 && division_in_range d)
content_in_range (Reply kind qual number first to) = nat_le qual 1 && (nat_le number 15 && (first_in_range first && address_in_range to))
content_in_range (Go to partner channel number) = address_in_range to && (address_in_range partner && (channel_in_range channel && nat_le number 3))
content_in_range (Ahy ad to) = nat_le ad 1 && address_in_range to
content_in_range (Ahyq ipfixi to) = nat_le ipfixi 1 && address_in_range to
content_in_range (Head to) = address_in_range to
content_in_range Mark = true
content_in_range Bcast = true
content_in_range (Move d channel) = division_in_range d && channel_in_range channel
content_in_range Other = true

-- the code is judged before the content
abbrev pub heard_in_range : Heard → Result (Unit {0}) Refusal
heard_in_range h = cond (code_in_range h.code) (cond (content_in_range h.content) (Ok tt) (Err ContentField)) (Err SystemCode)
