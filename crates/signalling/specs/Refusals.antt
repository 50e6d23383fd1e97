-- The number of each refusal.
use Rattle.std.specs.Prelude.{ℕ}
use Rattle.signalling.specs.declared.refusal.Refusal.{Refusal}
use Rattle.signalling.specs.declared.refusal.Refusal.TheVariants.{NoStay, RequestOpen, PermitOut, NoPermit, OtherAddress, NoRequest, Address, Channel, MostTransmissions, Timer, FirstDelay, SystemCode, ContentField, ZeroRegister}

-- 1 to 6 go to the host, 11 to 15 go to the installer who makes a set, 21 and 22 to the decoder, 41 to the operator who makes a register source
abbrev pub number_of : Refusal → ℕ
number_of NoStay = 1
number_of RequestOpen = 2
number_of PermitOut = 3
number_of NoPermit = 4
number_of OtherAddress = 5
number_of NoRequest = 6
number_of Address = 11
number_of Channel = 12
number_of MostTransmissions = 13
number_of Timer = 14
number_of FirstDelay = 15
number_of SystemCode = 21
number_of ContentField = 22
number_of ZeroRegister = 41
