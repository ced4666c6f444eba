-- A line's digits read one after the other: one digit more leaves the rest to judge, and a number past 64 bits stays past them.
use Prim.Native.Nat.{ℕ, ◌+◌, ◌*◌, ◌-◌, ◌≤◌, ◌<◌}
use mathlib.Core.Path.{◌≡◌, refl, sym, ap, ◌∙◌}
use mathlib.Core.Bool.{Bool, true, false, ◌&&◌}
use mathlib.Core.List.{List, [], ◌∷◌}
use native.Mathlib.Omega.{arith}
use native.Mathlib.Numerals.{add-one}
use borrow.Author.Tests.{lt-ltb, le-ltb, le-leb, lt-leb, ltb-true, ltb-false}
use lib.Dec.{ltb, leb}
use lib.ListN.{length, get_or, drop, drop_of_length-le}
use lib.Seq.{drop-cons}
use Rattle.scope.specs.Bytes.{pick}
use Rattle.std.specs.Prelude.{Option, Some, None, SomeIff}
use Rattle.lines.specs.Lines.{is_digit, all_digits, number_from, decimal_from, with_digit, decimal_of}

-- one digit more

module _ (n b : ℕ) where
  pub below_digits : b < 48 → None ≡ with_digit n b
  unfolding with_digit decimal_from all_digits is_digit
  below_digits h = simp (lt-leb 48 b h)

  pub above_digits : 57 < b → None ≡ with_digit n b
  unfolding with_digit decimal_from all_digits is_digit
  above_digits h = go (leb 48 b)
    where
      go : (t : Bool) → None ≡ pick (((t && leb b 57) && true) && ltb (number_from n (b ∷ [])) 18446744073709551616) (Some (number_from n (b ∷ []))) None
      go true = simp (lt-leb b 57 h)
      go false = refl

  pub past_64 : 48 ≤ b → b ≤ 57 → 18446744073709551616 ≤ 10 * n + (b - 48) → None ≡ with_digit n b
  unfolding with_digit decimal_from all_digits is_digit number_from
  past_64 h k p = simp (le-leb 48 b h, le-leb b 57 k, le-ltb (10 * n + (b - 48)) 18446744073709551616 p)

  pub one_digit : 48 ≤ b → b ≤ 57 → 10 * n + (b - 48) < 18446744073709551616 → Some (10 * n + (b - 48)) ≡ with_digit n b
  unfolding with_digit decimal_from all_digits is_digit number_from
  one_digit h k p = simp (le-leb 48 b h, le-leb b 57 k, lt-ltb (10 * n + (b - 48)) 18446744073709551616 p)

  -- the digit added to ten times the number, where the sum stays within 64 bits
  pub more_digit : (tens d : ℕ) (r : Option ℕ) → 48 ≤ b → b ≤ 57 → tens ≡ n * 10 → d ≡ b - 48
      → SomeIff r (tens + d < 18446744073709551616) (tens + d) → r ≡ with_digit n b
  more_digit tens d None h k e f p = past_64 h k (omega arith)
  more_digit tens d (Some x) h k e f p = let z : x ≡ 10 * n + (b - 48) = omega arith in ap Some z ∙ one_digit h k (omega arith)

-- what remains after one digit

rises : (n : ℕ) (s : List ℕ) → n ≤ number_from n s
unfolding number_from
rises n [] = omega arith
rises n (b ∷ s) = let h = rises (10 * n + (b - 48)) s in omega arith

module _ (n b : ℕ) (s : List ℕ) where
  abbrev then : ℕ
  then = 10 * n + (b - 48)

  -- the digit's two tests
  abbrev one : Bool → Bool → Option ℕ
  one d t = pick ((d && true) && t) (Some then) None

  digit_again : (m : ℕ) → with_digit n b ≡ Some m → (decimal_from n (b ∷ s) ≡ decimal_from m s) × (m < 18446744073709551616)
  unfolding with_digit decimal_from all_digits number_from
  digit_again m = go (is_digit b) (ltb then 18446744073709551616) refl
    where
      go : (d t : Bool) → ltb then 18446744073709551616 ≡ t → one d t ≡ Some m
          → (pick ((d && all_digits s) && ltb (number_from then s) 18446744073709551616) (Some (number_from then s)) None ≡ pick (all_digits s && ltb (number_from m s) 18446744073709551616) (Some (number_from m s)) None)
          × (m < 18446744073709551616)
      go true true f e =
          let z : then ≡ m = cc in
          (ap (λ x. pick (all_digits s && ltb (number_from x s) 18446744073709551616) (Some (number_from x s)) None) z, omega (arith, ltb-true then 18446744073709551616 f))
      go true false f e = let z : ◌≡◌ {A = ℕ} 0 1 = cc in absurd (omega arith)
      go false t f e = let z : ◌≡◌ {A = ℕ} 0 1 = cc in absurd (omega arith)

  digit_stop : with_digit n b ≡ None → None ≡ decimal_from n (b ∷ s)
  unfolding with_digit decimal_from all_digits number_from
  digit_stop = go (is_digit b) (ltb then 18446744073709551616) (all_digits s) refl
    where
      go : (d t a : Bool) → ltb then 18446744073709551616 ≡ t → one d t ≡ None
          → None ≡ pick ((d && a) && ltb (number_from then s) 18446744073709551616) (Some (number_from then s)) None
      go true true a f e = let z : ◌≡◌ {A = ℕ} 0 1 = cc in absurd (omega arith)
      go true false true f e = simp (le-ltb (number_from then s) 18446744073709551616 (omega (arith, rises then s, ltb-false then 18446744073709551616 f)))
      go true false false f e = refl
      go false t a f e = refl

-- at a place of a line

module _ (s : List ℕ) (n i : ℕ) (h : i < length s) where
  here : drop i s ≡ get_or s i 0 ∷ drop (i + 1) s
  here = rw (add-one, drop-cons s i 0)

  pub decimal_again : (m : ℕ) → with_digit n (get_or s i 0) ≡ Some m → (decimal_from n (drop i s) ≡ decimal_from m (drop (i + 1) s)) × (m < 18446744073709551616)
  decimal_again m e = let q = digit_again n (get_or s i 0) (drop (i + 1) s) m e in (ap (decimal_from n) here ∙ q.0, q.1)

  pub decimal_stop : with_digit n (get_or s i 0) ≡ None → None ≡ decimal_from n (drop i s)
  decimal_stop e = digit_stop n (get_or s i 0) (drop (i + 1) s) e ∙ sym (ap (decimal_from n) here)

pub decimal-end : (s : List ℕ) (n i : ℕ) → i ≡ length s → n < 18446744073709551616 → Some n ≡ decimal_from n (drop i s)
unfolding decimal_from all_digits number_from
decimal-end s n i e h = let z = drop_of_length-le s {i = i} (omega arith) in simp (z, lt-ltb n 18446744073709551616 h)

-- the whole line

pub decimal_blank : (s : List ℕ) → length s ≡ 0 → None ≡ decimal_of s
unfolding decimal_of
decimal_blank s e = simp (le-ltb 0 (length s) (omega arith))

pub decimal_all : (s : List ℕ) → 0 < length s → decimal_from 0 s ≡ decimal_of s
unfolding decimal_of
decimal_all s h = simp (lt-ltb 0 (length s) h)
