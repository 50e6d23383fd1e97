-- How an address qualifier M and an address divide the radio unit population.
use Rattle.std.specs.Prelude.{ℕ, ◌%◌, ◌^◌, Bool, ◌&&◌, ◌||◌, ◌==◌, nat_lt}
use Rattle.signalling.specs.declared.division.Division.{Division}

-- the division of M and an address
abbrev pub division : ℕ → ℕ → Division
division m address = record { qualifier = m; address = address }

-- a division applies to a unit whose own address has the same M least significant bits (7.3.1)
abbrev pub applicable : Division → ℕ → Bool
applicable d own = own % 2 ^ d.qualifier == d.address % 2 ^ d.qualifier

-- a division admits a request of a unit that it applies to, and an emergency wherever M is below 20 (7.3.1)
abbrev pub admits : Bool → Division → ℕ → Bool
admits emergency d own = applicable d own || (emergency && nat_lt d.qualifier 20)
