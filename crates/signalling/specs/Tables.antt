-- Tables 7-1 and 7-2 of the standard. A number past a table's last row reads as that row: no field of so few bits holds it.
use Rattle.std.specs.Prelude.{ℕ, cond, ◌==◌, nat_le}

-- the frame that a four-bit Aloha number of an Aloha message or an acknowledgement marks, 0 for none (7.3.3, Table 7-1)
abbrev pub four_bit_length : ℕ → ℕ
four_bit_length n = cond (nat_le n 10) n (cond (n == 11) 12 (cond (n == 12) 15 (cond (n == 13) 19 (cond (n == 14) 25 32))))

-- the frame that the two-bit Aloha number of a Go To Channel message marks, 0 for none (7.3.3, Table 7-1)
abbrev pub two_bit_length : ℕ → ℕ
two_bit_length n = cond (nat_le n 1) n (cond (n == 2) 3 6)

-- the response delay WAIT in slots that the parameter WT stands for (7.3.7, Table 7-2)
abbrev pub wait_of : ℕ → ℕ
wait_of wt = cond (nat_le wt 5) wt (cond (wt == 6) 10 15)
