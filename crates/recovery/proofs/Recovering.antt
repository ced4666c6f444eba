-- Recovery: one law for each way that a function ends, from the tests that led there; a start's table is the replay of the entries that scan counted.
use Prim.Native.Nat.{ℕ, suc, ◌+◌, ◌-◌, ◌*◌, ◌≤◌, ◌<◌}
use mathlib.Core.Path.{◌≡◌, refl, sym, ap, ◌∙◌}
use mathlib.Core.Bool.{Bool, true, false, ◌&&◌, ◌||◌}
use mathlib.Core.List.{List, [], ◌∷◌}
use mathlib.Core.Option.{Option, none, some}
use native.Mathlib.Omega.{arith}
use borrow.Author.Tests.{lt-ltb, le-ltb, leb-true, eqb-true}
use lib.Dec.{eqb}
use lib.ListN.{length, get_or, replicate}
use Rattle.scope.specs.Bytes.{pick, bytes_of, number_at, put}
use Rattle.scope.specs.Keeper.{Keeper, Answer, recovering, done, refused, cell, head, clean, in_range, medium_length, cell_at, head_bytes, is_head_ok, no_state, with_state, with_medium, made_to, dropped_to, store_cell, store_head}
use Rattle.scope.specs.Recovery.{journal, journal_fault, replay, table_of, differing}
use Rattle.scope.specs.Refusals.{RecoveryStart, RecoveryStep, is_medium, is_cells, lent, lent_start, unfit, tests, refusal, bad_row, told}
use Rattle.scope.specs.Calls.{started, step_at, performed, act}
use Rattle.scope.proofs.Refusals.{refusal-none, numbered-refused, numbered-done}
use Rattle.scope.proofs.Sound.{fit_sound, fit_lent}
use Rattle.scope.proofs.Told.{told_nothing, told_2}
use Rattle.std.specs.declared.option.Option as code
use Rattle.std.specs.Prelude.{Some, None, Result, Ok, Err}
use Rattle.scope.specs.Row.{faultless}
use Rattle.row.specs.Row.{fault_in}
use Rattle.answer.specs.declared.Refusal.TheVariants.{Unfit, Malformed}
use Rattle.recovery.specs.Answers.{start_left}
use Rattle.row.specs.declared.Fault.{Fault}
use Rattle.medium.specs.Lent.{found}
use Rattle.journal.specs.Entries.{entry_in}
use Rattle.replay.specs.Replay.{last_of, upto, malformed, replay_from, replayed}
use Rattle.replay.proofs.Replaying.{replay_rows, Last, last_some, last_none, last_fits}
use Rattle.state.specs.State.{state_of}
use Rattle.state.specs.declared.Numbers.{Numbers}
use Rattle.state.specs.declared.Phase.{Phase}
use Rattle.state.specs.declared.Phase.TheVariants.{Idle}
use Rattle.state.proofs.Facts.{and_left, and_right, sound_facts, medium_fits}
use Rattle.state.specs.Lent.{lent_to, stateless, left}

-- a head in rule
pub record Head (m : List ℕ) : Type 0 where
  pub cells≤ : number_at 4 0 m ≤ 1024
  pub slots≥ : 4 ≤ number_at 4 4 m
  pub slots≤ : number_at 4 4 m ≤ 1024
  pub long : length m ≡ 32 + 32 * number_at 4 4 m + 8 * number_at 4 0 m

ruleset tests-true = (and_left, and_right, leb-true, eqb-true)

pub head_fits : (m : List ℕ) (t : Bool) → t ≡ is_head_ok m → t ≡ true → Head m
unfolding is_head_ok in_range medium_length
head_fits m t e p =
    let q = sym e ∙ p in
    record { cells≤ = search tests-true; slots≥ = search tests-true; slots≤ = search tests-true; long = search tests-true }

module _ (m current first last waiting : List ℕ) where
  -- the workspaces as the head says

  abbrev pub Fit : Bool
  Fit = is_head_ok m && lent_start (number_at 4 0 m) (number_at 4 4 m) (stateless m current first last waiting)

  -- a start's three ends

  module _ (t : Bool) (e : t ≡ Fit) where
    number_1 : t ≡ false → 1 ≡ refusal RecoveryStart (stateless m current first last waiting)
    unfolding stateless refusal tests
    number_1 p = simp (← e, p)

    pub start_unfit : t ≡ false
        → (start_left (Err Unfit) m current first last waiting ≡ act RecoveryStart (stateless m current first last waiting))
        × (faultless ≡ told RecoveryStart (stateless m current first last waiting))
    unfolding left lent_to state_of stateless act refusal tests with_state no_state
    start_unfit p =
        (simp (← e, p), told_nothing RecoveryStart (stateless m current first last waiting) 1 (number_1 p) (λ z. omega arith) (λ z. omega arith))

    module _ (p : t ≡ true) where
      pub start_head : Head m
      start_head = head_fits m true (sym (and_left (is_head_ok m) _ (sym e ∙ p))) refl

      pub start_lent : (length current ≡ number_at 4 0 m) × (length first ≡ number_at 4 0 m) × (length last ≡ number_at 4 0 m)
      unfolding lent_start stateless
      start_lent = let q = sym e ∙ p in (search tests-true, search tests-true, search tests-true)

      module _ (n c h : ℕ) (qn : n ≡ number_at 4 0 m) (qc : c ≡ number_at 4 4 m) (qh : h ≡ number_at 4 8 m) (u : Result ℕ Fault) (qs : (upto u ≡ last_of h (journal n c h m)) × (malformed u ≡ journal_fault n c h m)) where
        counted : last_of (number_at 4 8 m) (journal (number_at 4 0 m) (number_at 4 4 m) (number_at 4 8 m) m) ≡ upto u
        counted = sym (qs.0 ∙ (λ i. last_of (qh i) (journal (qn i) (qc i) (qh i) m)))

        none_read : (w : Fault) → u ≡ Err w → journal (number_at 4 0 m) (number_at 4 4 m) (number_at 4 8 m) m ≡ none
        none_read w g = last_none m (number_at 4 0 m) (number_at 4 4 m) (number_at 4 8 m) (counted ∙ ap upto g)

        number_2 : (w : Fault) → u ≡ Err w → 2 ≡ refusal RecoveryStart (stateless m current first last waiting)
        unfolding stateless refusal tests
        number_2 w g = simp (← e, p, none_read w g)

        named : malformed u ≡ bad_row RecoveryStart (stateless m current first last waiting)
        unfolding bad_row stateless
        named = qs.1 ∙ (λ i. journal_fault (qn i) (qc i) (qh i) m)

        pub start_malformed : (w : Fault) → u ≡ Err w
            → (start_left (Err (Malformed w)) m current first last waiting ≡ act RecoveryStart (stateless m current first last waiting))
            × (fault_in w ≡ told RecoveryStart (stateless m current first last waiting))
        unfolding left lent_to state_of stateless act refusal tests with_state no_state
        start_malformed w g = (
          simp (← e, p, none_read w g),
          ap malformed (sym g) ∙ named ∙ told_2 RecoveryStart (stateless m current first last waiting) 2 (number_2 w g) refl,
        )

        module _ (x : ℕ) (g : u ≡ Ok x) where
          pub start_upto : h < 4294967296 → h ≤ x
          start_upto f = (last_fits m n c h x (sym qs.0 ∙ ap upto g) f).0

          read : Last m (number_at 4 0 m) (number_at 4 4 m) (number_at 4 8 m) x
          read = last_some m (number_at 4 0 m) (number_at 4 4 m) (number_at 4 8 m) x (counted ∙ ap upto g)

          number_0 : 0 ≡ refusal RecoveryStart (stateless m current first last waiting)
          unfolding refusal tests stateless
          number_0 = simp (← e, p, read.read)

          accepted : record { answer = done 0; keeper = started (number_at 4 0 m) (number_at 4 4 m) (number_at 4 8 m) read.entries (stateless m current first last waiting) }
              ≡ act RecoveryStart (stateless m current first last waiting)
          unfolding act performed refusal tests stateless
          accepted = simp (← e, p, read.read)

          module _ (all : Result Unit Fault) (loaded current' : List ℕ) (ql : loaded ≡ table_of (length current) c m) (qr : replayed all current' ≡ replay_from (entry_in m 32 c n) (x - h) h h loaded) where
            replay_is : replayed all current' ≡ some (replay read.entries [] (table_of (number_at 4 0 m) (number_at 4 4 m) m))
            replay_is =
                let z : x - h ≡ length read.entries = omega (arith, read.last) in
                let y : loaded ≡ table_of (number_at 4 0 m) (number_at 4 4 m) m = ql ∙ (λ i. table_of (start_lent.0 i) (qc i) m) in
                qr ∙ (λ i. replay_from (entry_in m 32 (qc i) (qn i)) (z i) (qh i) (qh i) (y i))
                ∙ replay_rows m (number_at 4 0 m) (number_at 4 4 m) (number_at 4 8 m) read.entries _ read.read

            -- behind the scan replay refuses no row
            pub start_read : (w : Fault) → all ≡ Err w → ⊥
            start_read w q =
                let z : ◌≡◌ {A = Option (List ℕ)} none (some (replay read.entries [] (table_of (number_at 4 0 m) (number_at 4 4 m) m))) =
                ap (λ b. replayed b current') (sym q) ∙ replay_is in
                let w : ◌≡◌ {A = ℕ} 0 1 = cc in omega arith

            pub start_done : (first' last' : List ℕ) → first' ≡ replicate (length first) 0 → last' ≡ replicate (length last) 0 → all ≡ Ok tt
                → (start_left (Ok (record { cells = n; slots = c; h = h; f = x; l = x; o = x })) m current' first' last' waiting ≡ act RecoveryStart (stateless m current first last waiting))
                × (faultless ≡ told RecoveryStart (stateless m current first last waiting))
            unfolding left lent_to state_of stateless
            start_done first' last' qf qg ok =
                let e : ◌≡◌ {A = Option (List ℕ)} (some current') (some (replay read.entries [] (table_of (number_at 4 0 m) (number_at 4 4 m) m))) =
                ap (λ b. replayed b current') (sym ok) ∙ replay_is in
                let a : current' ≡ replay read.entries [] (table_of (number_at 4 0 m) (number_at 4 4 m) m) = cc in
                let b = qf ∙ ap (λ i. replicate {A = ℕ} i 0) start_lent.1 in
                let d = qg ∙ ap (λ i. replicate {A = ℕ} i 0) start_lent.2 in
                let l : x ≡ number_at 4 8 m + length read.entries = read.last in (
                  (λ i. record {
                    answer = done 0;
                    keeper = record {
                      medium = m;
                      current = a i;
                      first = b i;
                      last = d i;
                      waiting = waiting;
                      state = record { cells = qn i; slots = qc i; h = qh i; f = l i; l = l i; o = l i; phase = recovering };
                    };
                  })
                      ∙ accepted,
                  told_nothing RecoveryStart (stateless m current first last waiting) 0 number_0 (λ z. omega arith) (λ z. omega arith),
                )

-- a step tells of no row
pub step_silent : (k : Keeper) → faultless ≡ told RecoveryStep k
unfolding told bad_row
step_silent k = go (eqb (refusal RecoveryStep k) 2 || eqb (refusal RecoveryStep k) 7)
  where
    go : (t : Bool) → faultless ≡ pick t faultless faultless
    go true = refl
    go false = refl

-- a step's ends

module _ (n : Numbers) (p : Phase) (m current : List ℕ) where
  pub end_clean : n.l ≤ n.h
      → left clean n Idle m current [] [] [] ≡ step_at none (lent_to n p m current [] [] [])
  unfolding left lent_to state_of step_at with_state made_to
  end_clean h = simp (le-ltb n.h n.l h)

  pub end-head : n.h < n.l → (m' : List ℕ) → m' ≡ put m 0 (head_bytes n.cells n.slots n.l)
      → left head (record { cells = n.cells; slots = n.slots; h = n.l; f = n.f; l = n.l; o = n.o }) Idle m' current [] [] []
      ≡ step_at none (lent_to n p m current [] [] [])
  unfolding left lent_to state_of step_at with_state with_medium dropped_to store_head
  end-head h m' q = simp (lt-ltb n.h n.l h, q)

lowest_below : (xs ys : List ℕ) (i c : ℕ) → differing xs ys i ≡ some c → c < i + length ys
unfolding differing
lowest_below [] ys i c e = let z : ◌≡◌ {A = ℕ} 0 1 = cc in absurd (omega arith)
lowest_below (x ∷ xs) [] i c e = let z : ◌≡◌ {A = ℕ} 0 1 = cc in absurd (omega arith)
lowest_below (x ∷ xs) (y ∷ ys) i c e = go (eqb x y) (lowest_below xs ys (i + 1) c) e
  where
    go : (b : Bool) → (differing xs ys (i + 1) ≡ some c → c < i + 1 + length ys) → pick b (differing xs ys (i + 1)) (some i) ≡ some c → c < i + suc (length ys)
    go true ih p = omega (arith, ih p)
    go false ih p = let z : i ≡ c = cc in omega arith

-- what a step that isn't refused knows
pub record Stepping (n : Numbers) (m current : List ℕ) : Type 0 where
  pub few-cells : n.cells ≤ 1024
  pub in_medium : length m ≡ 32 + 32 * n.slots + 8 * n.cells
  pub in_current : length current ≡ n.cells

module _ (n : Numbers) (p : Phase) (m current : List ℕ) (no : ℕ) (e : no ≡ refusal RecoveryStep (lent_to n p m current [] [] [])) where
  pub step_refused : (no ≡ 0 → ⊥) → left (refused no) n p m current [] [] [] ≡ act RecoveryStep (lent_to n p m current [] [] [])
  unfolding left act performed
  step_refused h = numbered-refused RecoveryStep (lent_to n p m current [] [] []) no e h

  module _ (h : no ≡ 0) where
    pub stepping : Stepping n m current
    unfolding refusal tests unfit lent lent_to state_of
    stepping =
        let k = lent_to n p m current [] [] [] in
        let t = refusal-none RecoveryStep k (sym e ∙ h) in
        let f = sound_facts n p (fit_sound RecoveryStep k t.0) in
        let l = fit_lent RecoveryStep k t.0 in
        record {
          few-cells = f.cells≤;
          in_medium = medium_fits n m (and_left (is_medium k) (is_cells k current) l);
          in_current = eqb-true _ _ (and_right (is_medium k) (is_cells k current) l);
        }

    module _ (u : code.Option ℕ) (d : found u ≡ differing (table_of (length current) n.slots m) current 0) where
      step_is : (o : Option ℕ) → found u ≡ o → step_at o (lent_to n p m current [] [] []) ≡ act RecoveryStep (lent_to n p m current [] [] [])
      unfolding performed lent_to state_of
      step_is o q =
          let z : o ≡ differing (table_of n.cells n.slots m) current 0 =
          sym q ∙ d ∙ ap (λ i. differing (table_of i n.slots m) current 0) stepping.in_current in
          ap (λ i. step_at i (lent_to n p m current [] [] [])) z
          ∙ numbered-done RecoveryStep (lent_to n p m current [] [] []) no e h

      module _ (c : ℕ) (q : u ≡ Some c) where
        pub step_inside : c < length current
        step_inside = omega (arith, lowest_below _ current 0 c (sym d ∙ ap found q))

        pub step_room : cell_at n.slots c + 8 ≤ length m
        unfolding cell_at
        step_room = let i = step_inside in let f = stepping in omega (arith, f.in_medium, f.in_current)

        pub step_cell : (at : ℕ) (m' : List ℕ) → at ≡ c → m' ≡ put m (cell_at n.slots c) (bytes_of 8 (get_or current at 0))
            → left (cell c) n p m' current [] [] [] ≡ act RecoveryStep (lent_to n p m current [] [] [])
        unfolding left lent_to state_of step_at store_cell with_medium
        step_cell at m' qa qm =
            let z = qm ∙ ap (λ i. put m (cell_at n.slots c) (bytes_of 8 (get_or current i 0))) qa in
            ap (λ i. left (cell c) n p i current [] [] []) z ∙ step_is (some c) (ap found q)

      pub step_last : u ≡ None → (a : Answer) (n' : Numbers) (p' : Phase) (m' : List ℕ)
          → left a n' p' m' current [] [] [] ≡ step_at none (lent_to n p m current [] [] [])
          → left a n' p' m' current [] [] [] ≡ act RecoveryStep (lent_to n p m current [] [] [])
      step_last q a n' p' m' r = r ∙ step_is none (ap found q)
