-- What is said of the cell that is asked for, by the way that it ends; and THE FIVE LINES ARE RIGHT for every medium that recovery accepts: the walk
-- meets the stored journal, the decision over it is right, and the value is the recovered one.
use Prim.Native.Nat.{ℕ, ◌*◌, ◌≤◌, ◌<◌}
use mathlib.Core.Path.{◌≡◌, refl, sym, ap, ◌∙◌}
use mathlib.Core.Bool.{Bool, true, false, false≢true}
use mathlib.Core.List.{List}
use mathlib.Core.Option.{Option, none, some}
use native.Mathlib.Omega.{arith}
use borrow.Author.Tests.{lt-ltb, le-ltb}
use lib.ListN.{get_or, replicate}
use Rattle.scope.specs.Bytes.{number_at}
use Rattle.scope.specs.Row.{Entry}
use Rattle.scope.specs.Keeper.{Keeper, done, refused, refusal_of, is_head_ok}
use Rattle.scope.specs.Recovery.{journal, entries_of, table_of}
use Rattle.scope.specs.Refusals.{RecoveryStart, is_none, tests}
use Rattle.scope.specs.Demands.{stored_journal}
use Rattle.scope.proofs.Refusals.{refusal-none}
use Rattle.scope.proofs.Callers.{refusal-answered}
use Rattle.state.specs.Lent.{stateless}
use Rattle.recovered.specs.Recovered.{started}
use Rattle.recovered.proofs.Settled.{start_none}
use Rattle.values.specs.declared.Unread.{Unread}
use Rattle.values.specs.Values.{values_of, number_of, answer_of, Values}
use Rattle.text.specs.Text.{line, refused_key}
use Rattle.std.specs.Prelude.{Option as Opt, Some, None, Result, Ok, Err}
use Rattle.walker.specs.Walk.{walk}
use Rattle.walker.proofs.Walking.{walk-journal}
use Rattle.reasons.specs.declared.Decision.{Decision}
use Rattle.reasons.specs.Reason.{why}
use Rattle.reasons.specs.Claim.{Claims}
use Rattle.reasons.proofs.Accepted.{right}
use Rattle.why_text.specs.Why.{five_lines, cell_why, why_text}

module _ (m : List ℕ) where
  abbrev N : ℕ
  N = number_at 4 0 m

  abbrev C : ℕ
  C = number_at 4 4 m

  abbrev h : ℕ
  h = number_at 4 8 m

  -- the keeper that the definition's start is handed
  abbrev zeroed : Keeper
  zeroed = stateless m (replicate N 0) (replicate N 0) (replicate N 0) (replicate (32 * C) 0)

  -- a medium that recovery accepts

  module _ (v : ℕ) (accepted : (started m).answer ≡ done v) where
    in_rule : is_head_ok m ≡ true
    unfolding started
    in_rule = go (is_head_ok m) refl
      where
        go : (t : Bool) → is_head_ok m ≡ t → t ≡ true
        go true t = refl
        go false t =
            let q : refused 1 ≡ done v = sym (ap (λ o. o.answer) (start_none m (replicate N 0) (replicate N 0) (replicate N 0) (replicate (32 * C) 0) t)) ∙ accepted in
            let z : ◌≡◌ {A = ℕ} 0 1 = cc in absurd (omega arith)

    pub walk-stored : walk m ≡ stored_journal N C m
    unfolding started stateless tests
    walk-stored = go (journal N C h m) refl (refusal-none RecoveryStart zeroed (sym (refusal-answered RecoveryStart zeroed) ∙ ap refusal_of accepted)).1.0
      where
        go : (j : Option (List Entry)) → journal N C h m ≡ j → is_none j ≡ false → walk m ≡ entries_of j
        go none q e = absurd (false≢true (sym e))
        go (some es) q e = walk-journal m in_rule es q

    -- THE FIVE LINES, and what they claim
    pub five_right : (c : ℕ) → c < N → (let v = get_or (values_of m) c 0 in let d = why c h (stored_journal N C m) in
        (why_text m (Some c) ≡ five_lines c v d) × Claims c h (stored_journal N C m) (get_or (table_of N C m) c 0) v d)
    unfolding why_text cell_why values_of started stateless
    five_right c b =
        let e : (started m).answer ≡ done v = accepted in
        (simp (in_rule, lt-ltb c N b, e), right zeroed v c accepted b)

  -- a cell of the table

  module _ (c : ℕ) where
    module _ (r : Result Unit Unread) (current : List ℕ) (values : Values m r current) where
      pub cell_refused : (x : Unread) → r ≡ Err x → line refused_key (number_of x) ≡ cell_why m c
      unfolding cell_why
      cell_refused x z = let a = ap answer_of (sym z) ∙ values.answer in rw (← a)

      pub cell_done : r ≡ Ok tt → (at x : ℕ) (d : Decision) → at ≡ c → x ≡ get_or current at 0 → d ≡ why c h (walk m) → five_lines c x d ≡ cell_why m c
      unfolding cell_why
      cell_done z at x d p q e =
          let a : (started m).answer ≡ done 0 = sym values.answer ∙ ap answer_of z in
          rw (q, p, values.done z, e, walk-stored 0 a, a)

  -- what a line asks for

  module _ (t : Bool) (e : t ≡ is_head_ok m) (a : Opt ℕ) where
    pub asked_headless : t ≡ false → line refused_key 1 ≡ why_text m a
    unfolding why_text
    asked_headless p = simp (← e, p)

    module _ (p : t ≡ true) where
      pub asked_nothing : a ≡ None → line refused_key 4 ≡ why_text m a
      unfolding why_text
      asked_nothing q = simp (← e, p, q)

      module _ (c : ℕ) (q : a ≡ Some c) where
        pub asked_beyond : N ≤ c → line refused_key 4 ≡ why_text m a
        unfolding why_text
        asked_beyond b = simp (← e, p, q, le-ltb c N b)

        pub asked_cell : c < N → cell_why m c ≡ why_text m a
        unfolding why_text
        asked_cell b = simp (← e, p, q, lt-ltb c N b)
