-- Words by their bytes: what a definition that recurs on the bytes that are left says at the next of them, and where none is left.
use Prim.Native.Nat.{ℕ, suc, ◌+◌, ◌*◌, ◌-◌, ◌≤◌, ◌<◌}
use mathlib.Core.Path.{◌≡◌, ap}
use mathlib.Core.Bool.{Bool, ◌&&◌}
use mathlib.Core.List.{List}
use native.Mathlib.Omega.{arith}
use lib.Dec.{leb}
use lib.ListN.{get_or}
use Rattle.std.specs.Prelude.{None, Some}
use Rattle.scope.specs.Bytes.{pick}
use Rattle.words.specs.Words.{is_digit, more, digits, place_in, key_in}

-- how many bytes are left, as the definitions recur on it
left-of : (i to : ℕ) → i < to → to - i ≡ suc (to - (i + 1))
left-of i to h = omega arith

module _ (s : List ℕ) (i to : ℕ) where
  abbrev b : ℕ
  b = get_or s i 0

  pub digits-next : (n : ℕ) → i < to
      → digits (to - i) s i n ≡ pick (leb 48 b && leb b 57 && leb (more n b) 4294967295) (digits (to - (i + 1)) s (i + 1) (more n b)) None
  unfolding digits is_digit
  digits-next n h = ap (λ (k : ℕ). digits k s i n) (left-of i to h)

  pub digits-end : (n : ℕ) → to ≤ i → digits (to - i) s i n ≡ Some n
  unfolding digits
  digits-end n h = let z : to - i ≡ 0 = omega arith in ap (λ (k : ℕ). digits k s i n) z

  pub place_in-next : (t : ℕ → Bool) → i < to → place_in t (to - i) s i ≡ pick (t b) i (place_in t (to - (i + 1)) s (i + 1))
  unfolding place_in
  place_in-next t h = ap (λ (k : ℕ). place_in t k s i) (left-of i to h)

  pub place_in-end : (t : ℕ → Bool) → to ≤ i → place_in t (to - i) s i ≡ i
  unfolding place_in
  place_in-end t h = let z : to - i ≡ 0 = omega arith in ap (λ (k : ℕ). place_in t k s i) z

  pub key_in-next : (n : ℕ) → i < to → key_in (to - i) s i n ≡ pick (leb n 72057594037927935) (key_in (to - (i + 1)) s (i + 1) (n * 256 + b)) 0
  unfolding key_in
  key_in-next n h = ap (λ (k : ℕ). key_in k s i n) (left-of i to h)

  pub key_in-end : (n : ℕ) → to ≤ i → key_in (to - i) s i n ≡ n
  unfolding key_in
  key_in-end n h = let z : to - i ≡ 0 = omega arith in ap (λ (k : ℕ). key_in k s i n) z
