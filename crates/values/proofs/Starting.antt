-- The values are those of a start in workspaces of zeros: refused where its head is out of rule or a row does not read, and else the replay over the table.
use Prim.Native.Nat.{ℕ, ◌-◌, ◌*◌, ◌≤◌, ◌<◌}
use mathlib.Core.Path.{◌≡◌, refl, sym, ap, ◌∙◌}
use mathlib.Core.Bool.{Bool, true, false, false≢true}
use mathlib.Core.List.{List}
use mathlib.Core.Option.{none, some}
use borrow.Author.Tests.{eq-eqb}
use lib.ListN.{length, replicate, length-replicate}
use Rattle.scope.specs.Bytes.{number_at}
use Rattle.scope.specs.Row.{Fault, faultless, fault}
use Rattle.scope.specs.Keeper.{is_head_ok}
use Rattle.scope.specs.Recovery.{journal, journal_fault, table_of}
use Rattle.scope.specs.Refusals.{lent_start, is_none, tests, refusal}
use Rattle.scope.specs.Calls.{act}
use Rattle.scope.proofs.Told.{is_fault}
use Rattle.scope.proofs.Named.{journal_judged}
use Rattle.state.specs.Lent.{stateless, left, lent_to}
use Rattle.journal.specs.Entries.{entry_in}
use Rattle.replay.specs.Replay.{last_of, replay_from, replayed}
use Rattle.replay.proofs.Replaying.{last_some, last_none}
use Rattle.recovery.proofs.Recovering.{Fit, start_upto, start_read, start_done}
use Rattle.recovered.specs.Recovered.{started, head_number}
use Rattle.recovered.proofs.Settled.{start_none, head-number}
use Rattle.std.specs.Prelude.{Result, Ok, Err, Some, None}
use Rattle.std.specs.declared.option.Option as code
use Rattle.row.specs.declared.Fault as faults
use Rattle.values.specs.Values.{values_of, Values, upto}
use Rattle.values.specs.declared.Unread.TheVariants.{Head, Row}

module _ (m : List ℕ) (t : Bool) (e : t ≡ is_head_ok m) where
  abbrev N : ℕ
  N = number_at 4 0 m

  abbrev C : ℕ
  C = number_at 4 4 m

  abbrev zs : List ℕ
  zs = replicate N 0

  abbrev ws : List ℕ
  ws = replicate (32 * C) 0

  pub values_headless : t ≡ false → (current : List ℕ) → Values m (Err Head) current
  unfolding started
  values_headless p current =
      record { answer = sym (ap (λ o. o.answer) (start_none m zs zs zs ws (sym e ∙ p))); done = λ q. absurd (cc) }

  module _ (p : t ≡ true) where
    -- zeros for each cell are as many as the head says
    pub values-cells : (current : List ℕ) → current ≡ replicate (head_number 0 m) 0 → length current ≡ N
    values-cells current q = ap length q ∙ length-replicate (head_number 0 m) 0 ∙ sym (head-number 0 m t e p)

    fit : true ≡ Fit m zs zs zs ws
    unfolding lent_start stateless
    fit = sym (rw (sym e ∙ p, length-replicate {A = ℕ} N 0, length-replicate {A = ℕ} (32 * C) 0, eq-eqb N N refl, eq-eqb (32 * C) (32 * C) refl))

    module _ (n c h : ℕ) (qn : n ≡ N) (qc : c ≡ C) (qh : h ≡ number_at 4 8 m) (u : code.Option ℕ) (qu : upto u ≡ last_of h (journal N C h m)) where
      pub values-malformed : u ≡ None → (current : List ℕ) → Values m (Err Row) current
      unfolding started act refusal tests stateless
      values-malformed g current =
          let z : journal N C (number_at 4 8 m) m ≡ none = ap (λ x. journal N C x m) (sym qh) ∙ last_none m N C h (sym qu ∙ ap upto g) in
          record { answer = simp (← fit, z); done = λ q. absurd (cc) }

      module _ (x : ℕ) (g : u ≡ Some x) where
        -- what a scan answers where each row reads
        scanned : (some x ≡ last_of h (journal n c h m)) × (faultless ≡ journal_fault n c h m)
        scanned =
            let q = sym (ap upto g) ∙ qu ∙ (λ i. last_of h (journal (sym qn i) (sym qc i) h m)) in
            let r = (last_some m n c h x (sym q)).read in
            (q, go (journal_fault n c h m) (sym (journal_judged n c h m) ∙ ap is_none r))
          where
            go : (w : Fault) → is_fault w ≡ false → faultless ≡ w
            go faultless p = refl
            go (fault y k) p = absurd (false≢true (sym p))

        pub values-upto : h < 4294967296 → h ≤ x
        values-upto f = start_upto m zs zs zs ws true fit refl n c h qn qc qh (Ok x) scanned x refl f

        module _ (size : ℕ) (qz : size ≡ N) (all : Result Unit faults.Fault) (loaded current : List ℕ) (ql : loaded ≡ table_of size c m) (qr : replayed all current ≡ replay_from (entry_in m 32 c n) (x - h) h h loaded) where
          zeros_loaded : loaded ≡ table_of (length zs) c m
          zeros_loaded = ql ∙ ap (λ k. table_of k c m) (qz ∙ sym (length-replicate {A = ℕ} N 0))

          -- behind the walk replay refuses no row
          pub values_read : (w : faults.Fault) → all ≡ Err w → ⊥
          values_read w q = start_read m zs zs zs ws true fit refl n c h qn qc qh (Ok x) scanned x refl all loaded current zeros_loaded qr w q

          pub values-done : all ≡ Ok tt → Values m (Ok tt) current
          unfolding started values_of left lent_to
          values-done ok =
              let s = (start_done m zs zs zs ws true fit refl n c h qn qc qh (Ok x) scanned x refl all loaded current zeros_loaded qr (replicate (length zs) 0) (replicate (length zs) 0) refl refl ok).0 in
              record { answer = ap (λ o. o.answer) s; done = λ q. ap (λ o. o.keeper.current) s }
