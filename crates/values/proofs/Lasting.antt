-- The last entry of a walk is the last that counts: what stands after an entry says how the rest of the journal ends.
use Prim.Native.Nat.{ℕ, zero, suc, ◌+◌, ◌-◌, ◌<◌, ◌≤◌}
use mathlib.Core.Path.{◌≡◌, refl, sym, ap, ◌∙◌}
use mathlib.Core.Bool.{Bool, true, false}
use mathlib.Core.List.{List, []}
use mathlib.Core.Option.{Option, none, some}
use native.Mathlib.Omega.{arith}
use lib.Dec.{eqb}
use Rattle.scope.specs.Bytes.{pick, number_at}
use Rattle.scope.specs.Row.{Entry, read_row}
use Rattle.scope.specs.Keeper.{is_head_ok}
use Rattle.scope.specs.Recovery.{rows_of, firstly, any_holds, entries_from, at_most, journal}
use Rattle.replay.specs.Replay.{last_of}
use Rattle.values.specs.Values.{end_after}
use Rattle.row.specs.Row.{entry}
use Rattle.row.specs.declared.Entry as code
use Rattle.std.specs.Prelude.{Result, Ok, Err, Some, None}
use Rattle.std.specs.declared.option.Option as code_option
use Rattle.row.specs.declared.Fault as faults
use Rattle.walker.specs.Walk.{Met, holds, malformed, end, met, counts, as_read, next_in, next_on}
use Rattle.walker.proofs.Walking.{counts-below, no_count, next-counts, least, met-counts}

-- the head's numbers, as the code has read them

pub same_most : (m : List ℕ) (most c x : ℕ) → most ≡ at_most c x → c ≡ number_at 4 4 m → x ≡ number_at 4 8 m → most ≡ at_most (number_at 4 4 m) (number_at 4 8 m)
same_most m most c x e p q = e ∙ (λ i. at_most (p i) (q i))

pub same_rows : (m : List ℕ) (c count k : ℕ) → c ≡ number_at 4 4 m → any_holds (rows_of c m) count k ≡ any_holds (rows_of (number_at 4 4 m) m) count k
same_rows m c count k p = ap (λ i. any_holds (rows_of i m) count k) p

-- how a walk that meets no entry after n ends: by the rows that may still count

module _ (m : List ℕ) (n : ℕ) where
  abbrev rest : ℕ
  rest = at_most (number_at 4 4 m) (number_at 4 8 m) - (n - number_at 4 8 m) - 1

  pub end-done : at_most (number_at 4 4 m) (number_at 4 8 m) ≤ n - number_at 4 8 m → some n ≡ end_after m n
  unfolding end_after any_holds
  end-done q = let z : rest ≡ 0 = omega arith in rw z

  module _ (b : Bool) (count k : ℕ) (e : count ≡ rest) (i : k ≡ n + 1) (q : b ≡ any_holds (rows_of (number_at 4 4 m) m) count k) where
    held : any_holds (rows_of (number_at 4 4 m) m) rest (n + 1) ≡ b
    held = sym (q ∙ (λ j. any_holds (rows_of (number_at 4 4 m) m) (e j) (i j)))

    pub end-hole : b ≡ true → none ≡ end_after m n
    unfolding end_after
    end-hole z = rw (held, z)

    pub end-last : b ≡ false → some n ≡ end_after m n
    unfolding end_after
    end-last z = rw (held, z)

module _ (m : List ℕ) (ok : is_head_ok m ≡ true) where
  abbrev N : ℕ
  N = number_at 4 0 m

  abbrev C : ℕ
  C = number_at 4 4 m

  abbrev h : ℕ
  h = number_at 4 8 m

  -- the last entry of those after n, of which so many may still count
  abbrev last_from : ℕ → ℕ → Option ℕ
  last_from left n = last_of n (entries_from (rows_of C m) N left n)

  abbrev still : ℕ → ℕ
  still n = at_most C h - (n - h)

  -- the same by what stands after n
  abbrev by_met : ℕ → Met → Option ℕ
  by_met n (holds k e) = last_from (still k) k
  by_met n malformed = none
  by_met n end = end_after m n

  none_count : (n : ℕ) → h ≤ n → at_most C h ≤ n - h → next_on m n ≡ end
  none_count n p q = sym ((no_count m n true (sym ok) refl C h refl refl (counts C h n) refl (go (counts C h n) refl)).0)
    where
      go : (b : Bool) → counts C h n ≡ b → b ≡ false
      go false e = refl
      go true e = let w = counts-below C h n e in absurd (omega (arith, q, least C h (n - h) w.2 (omega (arith, w.1, p))))

  end_as : (n left : ℕ) → suc left ≡ still n → (b : Bool) → any_holds (rows_of C m) left (n + 1) ≡ b → last_of n (pick b none (some [])) ≡ end_after m n
  unfolding end_after
  end_as n left e b q = let z : still n - 1 ≡ left = omega (arith, e) in rw (z, q) (go b)
    where
      go : (b : Bool) → last_of n (pick b none (some [])) ≡ pick b none (some n)
      go true = refl
      go false = ap some (omega arith)

  from_met : (left n : ℕ) → left ≡ still n → h ≤ n → last_from left n ≡ by_met n (next_on m n)
  unfolding entries_from next_in
  from_met zero n e p = let z : n + 0 ≡ n = omega arith in ap some z ∙ end-done m n (omega (arith, e)) ∙ ap (by_met n) (sym (none_count n p (omega (arith, e))))
  from_met (suc left) n e p =
      go (eqb (number_at 4 0 (rows_of C m (n + 1))) (n + 1)) (read_row N (n + 1) (rows_of C m (n + 1))) (entries_from (rows_of C m) N left (n + 1)) refl (any_holds (rows_of C m) left (n + 1)) refl
      ∙ ap (by_met n) (sym (next-counts m ok n p (omega (arith, e))))
    where
      go : (b : Bool) (o : Option Entry) (r : Option (List Entry)) → entries_from (rows_of C m) N left (n + 1) ≡ r → (d : Bool) → any_holds (rows_of C m) left (n + 1) ≡ d
          → last_of n (pick b (firstly o r) (pick d none (some []))) ≡ by_met n (pick b (as_read (n + 1) o) end)
      go false o r q d u = end_as n left e d u
      go true none r q d u = refl
      go true (some x) none q d u =
          let l : still (n + 1) ≡ left = omega (arith, e) in
          sym (ap (λ k. last_from k (n + 1)) l ∙ ap (last_of (n + 1)) q)
      go true (some x) (some xs) q d u =
          let l : still (n + 1) ≡ left = omega (arith, e) in
          ap some (omega arith) ∙ sym (ap (λ k. last_from k (n + 1)) l ∙ ap (last_of (n + 1)) q)

  -- a loop over a walk

  pub last_starts : (n : ℕ) → n ≡ h → last_of h (journal N C h m) ≡ last_from (still n) n
  unfolding journal
  last_starts n e = let z : still n ≡ at_most C h = omega (arith, e) in sym (rw (z, e))

  module _ (n : ℕ) (all : Option ℕ) (p : h ≤ n) (rest : all ≡ last_from (still n) n) (s : code_option.Option (Result (ℕ × code.Entry) faults.Fault)) (e : met s ≡ next_on m n) where
    by : all ≡ by_met n (met s)
    by = rest ∙ from_met (still n) n refl p ∙ ap (by_met n) (sym e)

    pub last-malformed : (w : faults.Fault) → s ≡ Some (Err w) → none ≡ all
    last-malformed w q = sym (by ∙ ap (λ x. by_met n (met x)) q)

    pub last_end : s ≡ None → (u : Option ℕ) → u ≡ end_after m n → u ≡ all
    last_end q u f = f ∙ sym (by ∙ ap (λ x. by_met n (met x)) q)

    module _ (k : ℕ) (w : code.Entry) (q : s ≡ Some (Ok (k, w))) where
      pub last_again : all ≡ last_from (still k) k
      last_again = by ∙ ap (λ x. by_met n (met x)) q

      pub last-counts : (k ≡ n + 1) × (h ≤ n) × (n - h < at_most C h)
      last-counts = met-counts m n k (entry w) (sym e ∙ ap met q)
