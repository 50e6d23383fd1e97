-- Digits without a needless zero, and the numbers that they write.
use Rattle.std.proofs.Common.{◌≡◌, ℕ, ◌+◌, ◌-◌, ◌*◌, ◌^◌, ◌<◌, ◌≤◌, true, List, length, get_or, take, Some, None, decimal, Option, sym, refl, ap, ◌∙◌, subst, ⊎_elim, arith}
use native.Mathlib.Nat.{pow-le-pow_right}
use Rattle.std.specs.Str.Parse.{digits_value, AllDigits}
use Rattle.std.specs.Int.{IsInRange}
use Rattle.std.specs.Char.{digit_value as value_of_digit}
use Rattle.std.proofs.lemmas.Fmt.{decimal_is_IsNumeral, decimal_digit, decimal-digits_value, length-decimal-le, first_decimal, decimal_injective}
use Rattle.std.proofs.lemmas.Int.Digits.{digits_value-lt, digits_value_more, digits_more}
use Rattle.std.proofs.lemmas.List.{length-take-le, take_all}
use Rattle.std.proofs.lemmas.Str.Parse.{IsNumeralModel, numerals_by_value, tells_digits, tells_all_ascii_digits}
use Rattle.std.proofs.lemmas.Bool.{cases_eq, cases_Bool, cond-true, cond-false, both_ways}
use Rattle.std.proofs.lemmas.Bool.Decides.{nat_tests}
use Rattle.std.specs.Str.{all_ascii_digits}
use Rattle.script.specs.Decimal.{NumberOf, Trim}
use Rattle.script.specs.Words.{is_number, number_in}

-- one to seven digits, the first of several not a zero
pub record Plain (bytes : List ℕ) : Type 0 where
  pub digits : AllDigits 10 bytes
  pub trim : Trim bytes

pub plain_decimal : (n : ℕ) → n < 10 ^ 7 → Plain (decimal n)
plain_decimal n small =
    let reads = decimal_is_IsNumeral n (omega arith) in
    record {
      digits = reads.0.1;
      trim = record {
        some = reads.0.0;
        short = length-decimal-le 7 n (omega arith) small (omega arith);
        lead = λ zero. ⊎_elim (λ none. ap (λ m. length (decimal m)) none ∙ ap length (decimal_digit 0 (omega arith))) (λ more. absurd (omega (arith, first_decimal n (omega arith) (omega arith)))) (cases_eq n 0);
      };
    }

-- bytes that are not plain write no number
pub no_number : (bytes : List ℕ) → (Plain bytes → ⊥) → (n : ℕ) → n < 10 ^ 7 → bytes ≡ decimal n → ⊥
no_number bytes other n small is = other (subst Plain (sym is) (plain_decimal n small))

value-small : (bytes : List ℕ) → AllDigits 10 bytes → length bytes ≤ 7 → digits_value 10 bytes < 10 ^ 7
value-small bytes digits short = omega (arith, digits_value-lt 10 bytes digits, pow-le-pow_right {n = 10} (omega arith) short)

-- plain bytes write their value
pub number-plain : (bytes : List ℕ) → Plain bytes → (bytes ≡ decimal (digits_value 10 bytes)) × (digits_value 10 bytes < 10 ^ 7)
number-plain bytes p =
    let small = value-small bytes p.digits p.trim.short in
    (sym (decimal-digits_value (numerals_by_value (AllDigits 10) tells_digits) bytes p.digits p.trim.some p.trim.lead (omega arith)), small)

digit_value : (c : ℕ) → IsInRange 48 57 c → value_of_digit c ≡ c - 48
digit_value c h = grind (arith, nat_tests)

-- n is what the first i bytes write, all digits
pub record Read (bytes : List ℕ) (i n : ℕ) : Type 0 where
  pub digits : AllDigits 10 (take i bytes)
  pub sum : n ≡ digits_value 10 (take i bytes)

pub reads_more : {bytes : List ℕ} {i n : ℕ} → Read bytes i n → i < length bytes → IsInRange 48 57 (get_or bytes i 0) → {d : ℕ} → d ≡ get_or bytes i 0 - 48 → Read bytes (i + 1) (n * 10 + d)
reads_more {bytes} {i} {n} r within digit {d} units =
    let is = digit_value (get_or bytes i 0) digit in
    record {
      digits = digits_more 10 bytes i within r.digits (omega arith);
      sum = omega (arith, r.sum, digits_value_more 10 bytes i within);
    }

pub read_small : {bytes : List ℕ} {i n : ℕ} → Read bytes i n → i ≤ 7 → i ≤ length bytes → n < 10 ^ 7
read_small {bytes} {i} {n} r short within = omega (arith, r.sum, value-small (take i bytes) r.digits (omega (arith, length-take-le i bytes within)))

pub reads_all : {bytes : List ℕ} {i n : ℕ} → Read bytes i n → length bytes ≤ i → Trim bytes → (bytes ≡ decimal n) × (n < 10 ^ 7)
reads_all {bytes} {i} {n} r all trim =
    let whole = take_all i bytes all in
    let is : n ≡ digits_value 10 bytes = r.sum ∙ ap (digits_value 10) whole in
    subst (λ m. (bytes ≡ decimal m) × (m < 10 ^ 7)) (sym is) (number-plain bytes (record { digits = subst (AllDigits 10) whole r.digits; trim = trim }))

own : IsNumeralModel (λ ds. all_ascii_digits ds ≡ true) (digits_value 10)
own = numerals_by_value _ tells_all_ascii_digits

-- the test tells plain bytes
pub plain_from_test : (bytes : List ℕ) → is_number bytes ≡ true → Plain bytes
plain_from_test bytes e =
    record {
      digits = own.to bytes (grind (arith, nat_tests));
      trim = record { some = grind (arith, nat_tests); short = grind (arith, nat_tests); lead = λ zero. grind (arith, nat_tests) };
    }

pub test_from_plain : (bytes : List ℕ) → Plain bytes → is_number bytes ≡ true
test_from_plain bytes p =
    let d = own.from bytes p.digits in
    let s = p.trim.some in
    let t = p.trim.short in
    let l = p.trim.lead in
    grind (arith, nat_tests)

-- plain bytes have one answer, and others none
answer_plain : (bytes : List ℕ) (r : Option ℕ) → NumberOf bytes r → Plain bytes → r ≡ Some (digits_value 10 bytes)
answer_plain bytes (Some n) h p =
    let q = number-plain bytes p in
    let small = h.1 in
    ap Some (decimal_injective n (digits_value 10 bytes) (omega arith) (omega (arith, q.1)) (sym h.0 ∙ q.0))
answer_plain bytes None h p = absurd (h (digits_value 10 bytes) (number-plain bytes p).1 (number-plain bytes p).0)

answer_other : (bytes : List ℕ) (r : Option ℕ) → NumberOf bytes r → (Plain bytes → ⊥) → r ≡ None
answer_other bytes (Some n) h other = absurd (no_number bytes other n h.1 h.0)
answer_other bytes None h other = refl

-- the answer is the one that the definition gives
pub number_is : (bytes : List ℕ) (r : Option ℕ) → NumberOf bytes r → r ≡ number_in bytes
number_is bytes r h =
    ⊎_elim
    (λ e. answer_plain bytes r h (plain_from_test bytes e) ∙ sym (cond-true (is_number bytes) (Some (digits_value 10 bytes)) None e))
    (λ e. answer_other bytes r h (λ p. both_ways (is_number bytes) e (test_from_plain bytes p)) ∙ sym (cond-false (is_number bytes) (Some (digits_value 10 bytes)) None e))
    (cases_Bool (is_number bytes))
