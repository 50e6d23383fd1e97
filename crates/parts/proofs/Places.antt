-- Reading the front of a list by place: for proofs about numbers kept in an array with a count.
use Rattle.std.proofs.Common.{◌≡◌, ℕ, ◌<◌, ◌≤◌, min, List, length, get_or, take, Some, None, ap, ◌∙◌, arith, length-take, get_or-take}
use Rattle.std.specs.List.{slice_get}
use Rattle.std.proofs.lemmas.Option.{slice_get-get_or, slice_get_past}

module _ (xs : List ℕ) (n i : ℕ) where
  -- before n, the first n elements read as all do
  pub nth_front : i < n → i < length xs → slice_get (take n xs) i ≡ Some (get_or xs i 0)
  nth_front lt within =
      let long : i < length (take n xs) = omega (arith, length-take n xs) in
      slice_get-get_or (take n xs) i 0 long ∙ ap (λ (x : ℕ). Some x) (get_or-take n xs i 0 lt)

  -- behind n, or behind the list, there is nothing
  pub nth_behind : min n (length xs) ≤ i → slice_get (take n xs) i ≡ None
  nth_behind le = slice_get_past (take n xs) i (omega (arith, length-take n xs))
