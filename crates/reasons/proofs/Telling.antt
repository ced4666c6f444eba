-- What the entries read so far say, entry by entry: one case law for each way that a function ends, and what remains of a walk says what all says.
use Prim.Native.Nat.{ℕ, zero, suc, ◌+◌, ◌-◌, ◌<◌, ◌≤◌}
use mathlib.Core.Path.{◌≡◌, refl, sym, ap, ◌∙◌}
use mathlib.Core.Bool.{Bool, false}
use mathlib.Core.List.{List, []}
use native.Mathlib.Omega.{arith}
use borrow.Author.Tests.{eq-eqb, ne_eqb}
use Rattle.scope.specs.Bytes.{number_at}
use Rattle.scope.specs.Row.{Entry}
use Rattle.scope.specs.Keeper.{first_mark, is_head_ok}
use Rattle.scope.specs.Recovery.{at_most}
use Rattle.row.specs.Row.{entry}
use Rattle.row.specs.declared.Entry as code
use Rattle.row.specs.declared.Entry.TheVariants.{Update, Commit, Abort}
use Rattle.std.specs.Prelude.{Result, Ok, Err, Some, None}
use Rattle.std.specs.declared.option.Option.{Option}
use Rattle.row.specs.declared.Fault as faults
use Rattle.walker.specs.Walk.{holds, met, next_on, followed, walked_from, walk}
use Rattle.walker.proofs.Walking.{met-counts, walk_none}
use Rattle.reasons.specs.declared.Reason.TheVariants.{Written, Restored}
use Rattle.reasons.specs.declared.Decision.{Decision}
use Rattle.reasons.specs.declared.Told.{Told}
use Rattle.reasons.specs.Reason.{untold, written, restored, told, tale, why}

-- a transaction ends

module _ (n : ℕ) (t : Told) where
  pub written_none : t.first ≡ 0 → t.ended ≡ written n t
  unfolding written
  written_none p = simp (eq-eqb t.first 0 p)

  pub written_last : (t.first ≡ 0 → ⊥) → record { reason = Written; entry = t.last; end = n } ≡ written n t
  unfolding written
  written_last p = simp (ne_eqb t.first 0 p)

  pub restored-none : t.first ≡ 0 → t.ended ≡ restored n t
  unfolding restored
  restored-none p = simp (eq-eqb t.first 0 p)

  pub restored-first : (t.first ≡ 0 → ⊥) → record { reason = Restored; entry = t.first; end = n } ≡ restored n t
  unfolding restored
  restored-first p = simp (ne_eqb t.first 0 p)

-- an entry is read

module _ (c n : ℕ) (t : Told) (w : code.Entry) where
  module _ (d old new : ℕ) (p : w ≡ Update d old new) where
    pub told-other : (c ≡ d → ⊥) → t ≡ told c n (entry w) t
    unfolding told
    told-other q = rw (p, ne_eqb c d q)

    pub told_this : c ≡ d → (f : ℕ) → f ≡ first_mark t.first n → record { first = f; last = n; ended = t.ended } ≡ told c n (entry w) t
    unfolding told
    told_this q f e = rw (p, eq-eqb c d q, e)

  pub told_commit : w ≡ Commit → (d : Decision) → d ≡ written n t → record { first = 0; last = 0; ended = d } ≡ told c n (entry w) t
  unfolding told
  told_commit p d e = rw (p, e)

  pub told_abort : w ≡ Abort → (d : Decision) → d ≡ restored n t → record { first = 0; last = 0; ended = d } ≡ told c n (entry w) t
  unfolding told
  told_abort p d e = rw (p, e)

-- a walk

module _ (m : List ℕ) (h c : ℕ) (head : h ≡ number_at 4 8 m) where
  -- how many entries it may still meet after n
  abbrev pub still_from : ℕ → ℕ
  still_from n = at_most (number_at 4 4 m) h - (n - h)

  pub tale_starts : (t : Told) → t ≡ untold → tale c h (walk m) untold ≡ tale c h (walked_from m (still_from h) h) t
  unfolding walk
  tale_starts t e = let z : still_from h ≡ at_most (number_at 4 4 m) h = omega arith in rw (← head, e, z)

  module _ (n : ℕ) (t all : Told) (rest : all ≡ tale c n (walked_from m (still_from n) n) t) (r : Option (Result (ℕ × code.Entry) faults.Fault)) (e : met r ≡ next_on m n) where
    tale_ends : ((x : ℕ × code.Entry) → r ≡ Some (Ok x) → ⊥) → t ≡ all
    unfolding walked_from tale
    tale_ends o = sym (rest ∙ ap (λ es. tale c n es t) (none_left (still_from n)))
      where
        not_held : (s : Option (Result (ℕ × code.Entry) faults.Fault)) → ((x : ℕ × code.Entry) → s ≡ Some (Ok x) → ⊥) → (es : List Entry) → followed (met s) es ≡ []
        not_held (Some (Ok x)) g es = absurd (g x refl)
        not_held (Some (Err w)) g es = refl
        not_held None g es = refl

        none_left : (left : ℕ) → walked_from m left n ≡ []
        none_left zero = refl
        none_left (suc left) = ap (λ x. followed x (walked_from m left (n + 1))) (sym e) ∙ not_held r o (walked_from m left (n + 1))

    pub tale-end : r ≡ None → t ≡ all
    tale-end p = tale_ends (λ x e. cc)

    pub tale_stopped : (s : Result (ℕ × code.Entry) faults.Fault) (w : faults.Fault) → r ≡ Some s → s ≡ Err w → t ≡ all
    tale_stopped s w p q = tale_ends (λ x e. cc)

    module _ (k : ℕ) (w : code.Entry) (p : r ≡ Some (Ok (k, w))) where
      held : next_on m n ≡ holds k (entry w)
      held = sym e ∙ ap met p

      pub tale-counts : (k ≡ n + 1) × (h ≤ n) × (n - h < at_most (number_at 4 4 m) h)
      tale-counts = rw head (met-counts m n k (entry w) held)

      pub tale_goes : (t' : Told) → t' ≡ told c k (entry w) t → all ≡ tale c k (walked_from m (still_from k) k) t'
      unfolding walked_from tale
      tale_goes t' q =
          let b = tale-counts in
          let z : still_from n ≡ suc (still_from k) = omega (arith, b.0, b.1, b.2) in
          rest ∙ rw (z, held, q, b.0)

-- the decision

module _ (m : List ℕ) (c : ℕ) (u : Told) (r : Decision) (e : r ≡ restored 0 u) where
  pub why-none : (t : Bool) → t ≡ is_head_ok m → t ≡ false → u ≡ untold → r ≡ why c (number_at 4 8 m) (walk m)
  unfolding why tale
  why-none t p q z = rw (walk_none m (sym p ∙ q), e, z)

  pub why_all : (h : ℕ) → h ≡ number_at 4 8 m → u ≡ tale c h (walk m) untold → r ≡ why c (number_at 4 8 m) (walk m)
  unfolding why
  why_all h p z = e ∙ rw (z, p)
