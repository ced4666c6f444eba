-- Lines by place: the search for a newline one byte on, each end of a line, and that a line lies within the bytes with the next one after it.
use Prim.Native.Nat.{ℕ, zero, suc, ◌+◌, ◌-◌, ◌≤◌, ◌<◌}
use mathlib.Core.Path.{◌≡◌, refl, sym, ap, subst, ◌∙◌}
use mathlib.Core.Bool.{Bool, true, false, ◌&&◌}
use Rattle.std.proofs.Math.Bool.{cond, not}
use mathlib.Core.List.{List, [], ◌∷◌}
use native.Mathlib.Omega.{arith}
use borrow.Author.Tests.{lt-ltb, le-ltb, eq-eqb, ne_eqb, ltb-true, ltb-false}
use lib.Dec.{ltb, eqb}
use lib.ListN.{length, get_or, drop, length-drop}
use Rattle.scope.specs.Bytes.{pick}
use Rattle.std.specs.List.{position, position_or_len}
use Rattle.std.proofs.lemmas.Option.{cond_some}
use Rattle.std.proofs.Common.{tests}
use Rattle.std.proofs.lemmas.List.Sums.{prefix_len-le-length}
use Rattle.std.specs.Prelude.{Option, Some, None}
use Rattle.lines.specs.declared.Line.{Line}
use Rattle.lines.specs.Lines.{before, newline, line_end, next_line, line_at, and_next, nth_from, nth_line}

-- the search for a newline: before the end or a newline stands nothing, before another byte's one byte more

pub before_end : before [] ≡ 0
unfolding before
before_end = refl

pub before_byte : (b : ℕ) (s : List ℕ) → before (b ∷ s) ≡ pick (eqb b 10) 0 (1 + before s)
unfolding before
before_byte b s = go (eqb b 10)
  where
    go : (t : Bool) → cond (not t) (1 + position_or_len (λ x. eqb x 10) s) 0 ≡ pick t 0 (1 + position_or_len (λ x. eqb x 10) s)
    go true = refl
    go false = refl

before_fits : (s : List ℕ) → before s ≤ length s
unfolding before
before_fits s = prefix_len-le-length _ s

newline_fits : (s : List ℕ) (at : ℕ) → at ≤ length s → (at ≤ newline at s) × (newline at s ≤ length s)
unfolding newline
newline_fits s at h = (omega arith, omega (arith, before_fits (drop at s), length-drop at s))

-- what the search from a place on gives
module _ (s x : List ℕ) (at : ℕ) (h : at ≤ length s) (rest : x ≡ drop at s) where
  abbrev searched : Option ℕ
  searched = position (λ b. eqb b 10) x

  newline-of : newline at s ≡ at + before x
  unfolding newline
  newline-of = ap (λ y. at + before y) (sym rest)

  pub newline_found : (i : ℕ) → searched ≡ Some i → (at + i ≡ newline at s) × (at ≤ at + i) × (at + i ≤ length s)
  unfolding before
  newline_found i e =
      let f = newline_fits s at h in
      let g = cond_some (ltb (before x) (length x)) (before x) i e in
      omega (arith, g.1, newline-of)

  pub newline_not_found : searched ≡ None → (length s ≡ newline at s) × (at ≤ length s) × (length s ≤ length s)
  unfolding before
  newline_not_found e =
      let f = newline_fits s at h in
      let l : length x ≡ length s - at = ap length rest ∙ length-drop at s in
      let g : length x ≤ before x = grind (arith, tests) in
      omega (arith, newline-of)

-- the ends of a line

module _ (s : List ℕ) (at nl : ℕ) where
  pub end-last : nl ≡ length s → nl ≡ line_end at nl s
  unfolding line_end
  end-last e = simp (le-ltb nl (length s) (omega arith))

  pub end_blank : nl ≡ at → nl ≡ line_end at nl s
  unfolding line_end
  end_blank e = go (ltb nl (length s))
    where
      go : (t : Bool) → nl ≡ pick (t && (ltb at nl && eqb (get_or s (nl - 1) 0) 13)) (nl - 1) nl
      go true = simp (le-ltb at nl (omega arith))
      go false = refl

  pub end_cr : nl < length s → at < nl → get_or s (nl - 1) 0 ≡ 13 → nl - 1 ≡ line_end at nl s
  unfolding line_end
  end_cr h k e = simp (lt-ltb nl (length s) h, lt-ltb at nl k, eq-eqb _ _ e)

  pub end_plain : nl < length s → at < nl → (get_or s (nl - 1) 0 ≡ 13 → ⊥) → nl ≡ line_end at nl s
  unfolding line_end
  end_plain h k e = simp (lt-ltb nl (length s) h, lt-ltb at nl k, ne_eqb _ _ e)

  end_fits : at ≤ nl → (at ≤ line_end at nl s) × (line_end at nl s ≤ nl)
  unfolding line_end
  end_fits h = go (ltb nl (length s)) (ltb at nl) (eqb (get_or s (nl - 1) 0) 13) refl
    where
      go : (t u v : Bool) → ltb at nl ≡ u → (at ≤ pick (t && (u && v)) (nl - 1) nl) × (pick (t && (u && v)) (nl - 1) nl ≤ nl)
      go true true true e = (omega (arith, ltb-true at nl e), omega arith)
      go true true false e = (h, omega arith)
      go true false v e = (h, omega arith)
      go false u v e = (h, omega arith)

-- where the next line begins

module _ (s : List ℕ) (nl : ℕ) where
  pub next-after : nl < length s → nl + 1 ≡ next_line nl s
  unfolding next_line
  next-after h = simp (lt-ltb nl (length s) h)

  pub next-none : length s ≤ nl → nl ≡ next_line nl s
  unfolding next_line
  next-none h = simp (le-ltb nl (length s) h)

-- the line at a place

abbrev line : ℕ → ℕ → ℕ → Line
line from to next = record { from = from; to = to; next = next }

module _ (s : List ℕ) (at : ℕ) where
  pub no_line : length s ≤ at → None ≡ line_at at s
  unfolding line_at
  no_line h = simp (le-ltb at (length s) h)

  pub line_here : at < length s → (nl to next : ℕ) → nl ≡ newline at s → to ≡ line_end at nl s → next ≡ next_line nl s → Some (line at to next) ≡ line_at at s
  unfolding line_at
  line_here h nl to next e f g =
      (λ i. Some (line at ((f ∙ ap (λ x. line_end at x s) e) i) ((g ∙ ap (λ x. next_line x s) e) i)))
      ∙ sym (ap (λ t. pick t (Some (line at (line_end at (newline at s) s) (next_line (newline at s) s))) None) (lt-ltb at (length s) h))

-- A LINE LIES WITHIN THE BYTES, and the next one begins after it
pub record Within (s : List ℕ) (from to next : ℕ) : Type 0 where
  pub begins : from < length s
  pub ordered : from ≤ to
  pub ends : to ≤ length s
  pub rises : from < next
  pub stays : next ≤ length s

abbrev pub LineWithin : List ℕ → Option Line → Type 0
LineWithin s (Some line) = Within s line.from line.to line.next
LineWithin s None = Unit {0}

pub line_within : (s : List ℕ) (at : ℕ) → LineWithin s (line_at at s)
unfolding line_at next_line
line_within s at = go (ltb at (length s)) refl (ltb (newline at s) (length s)) refl
  where
    go : (t : Bool) → ltb at (length s) ≡ t → (u : Bool) → ltb (newline at s) (length s) ≡ u
        → LineWithin s (pick t (Some (line at (line_end at (newline at s) s) (pick u (newline at s + 1) (newline at s)))) None)
    go false e u f = tt
    go true e true f =
        let h = ltb-true at (length s) e in
        let n = newline_fits s at (omega arith) in
        let k = end_fits s at (newline at s) n.0 in
        let j = ltb-true (newline at s) (length s) f in
        record { begins = h; ordered = k.0; ends = omega arith; rises = omega arith; stays = omega arith }
    go true e false f =
        let h = ltb-true at (length s) e in
        let n = newline_fits s at (omega arith) in
        let k = end_fits s at (newline at s) n.0 in
        let j = ltb-false (newline at s) (length s) f in
        record { begins = h; ordered = k.0; ends = omega arith; rises = omega arith; stays = omega arith }

-- lines counted

module _ (s : List ℕ) where
  pub nth_none : (k at : ℕ) → 0 < k → line_at at s ≡ None → None ≡ nth_from k at s
  unfolding nth_from
  nth_none zero at h e = absurd (omega arith)
  nth_none (suc k) at h e = sym (ap (λ x. and_next x (λ next. nth_from k next s)) e)

  pub nth_next : (k at : ℕ) (line : Line) → 0 < k → line_at at s ≡ Some line → nth_from k at s ≡ nth_from (k - 1) line.next s
  unfolding nth_from
  nth_next zero at line h e = absurd (omega arith)
  nth_next (suc k) at line h e =
      let z : k ≡ suc k - 1 = omega arith in
      ap (λ x. and_next x (λ next. nth_from k next s)) e ∙ ap (λ j. nth_from j line.next s) z

  pub nth_last : (k at : ℕ) → k ≡ 0 → line_at at s ≡ nth_from k at s
  unfolding nth_from
  nth_last zero at e = refl
  nth_last (suc k) at e = absurd (omega arith)

  nth_from_within : (k at : ℕ) → LineWithin s (nth_from k at s)
  unfolding nth_from
  nth_from_within zero at = line_within s at
  nth_from_within (suc k) at = go (line_at at s) (nth_from_within k)
    where
      go : (x : Option Line) → ((next : ℕ) → LineWithin s (nth_from k next s)) → LineWithin s (and_next x (λ next. nth_from k next s))
      go (Some line) h = h line.next
      go None h = tt

  pub nth_within : (k : ℕ) → LineWithin s (nth_line k s)
  unfolding nth_line
  nth_within k = nth_from_within k 0

  pub is_within : (k : ℕ) (line : Line) → nth_line k s ≡ Some line → Within s line.from line.to line.next
  is_within k line e = subst (LineWithin s) e (nth_within k)
