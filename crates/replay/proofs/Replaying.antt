-- Scan and replay by entry numbers say what the papers' definitions say of the journal: by induction on the entries, where entry n+1 of the
-- medium reads as the next of them, and the updates after s are the open transaction's, the last first.
use Prim.Native.Nat.{ℕ, zero, suc, ◌+◌, ◌-◌, ◌≤◌, ◌<◌}
use mathlib.Core.Path.{◌≡◌, refl, sym, ap, subst, ◌∙◌}
use mathlib.Core.Bool.{Bool, true, false}
use mathlib.Core.List.{List, [], ◌∷◌}
use mathlib.Core.Option.{Option, none, some}
use native.Mathlib.Omega.{arith}
use lib.Dec.{eqb}
use lib.ListN.{length, set}
use Rattle.scope.specs.Bytes.{pick, number_at}
use Rattle.scope.specs.Row.{Entry, update, commit_entry, abort_entry, read_row}
use Rattle.scope.specs.Recovery.{rows_of, firstly, any_holds, entries_from, at_most, journal, undo, replay}
use Rattle.journal.specs.Entries.{entry_in}
use Rattle.replay.specs.Replay.{last_of, undo_entry, undo_from, replay_entry, open_after, onward, replay_from}
use Rattle.replay.proofs.Turns.{most_fits}

none≢some {ℓ} : {R : Type ℓ} {A : Type 0} {x : A} → none ≡ some x → R
none≢some p = let z : ◌≡◌ {A = ℕ} 0 1 = cc in absurd (omega arith)

-- the updates among entries s + k, .., s + 1, the last first

abbrev undo_of : Option Entry → List (ℕ × ℕ) → List (ℕ × ℕ)
undo_of (some (update c old new)) u = (c, old) ∷ u
undo_of (some commit_entry) u = u
undo_of (some abort_entry) u = u
undo_of none u = u

unfoldable undos_of : (ℕ → Option Entry) → ℕ → ℕ → List (ℕ × ℕ)
undos_of e s zero = []
undos_of e s (suc k) = undo_of (e (s + suc k)) (undos_of e s k)

undo-same : (e : ℕ → Option Entry) (s k : ℕ) (t : List ℕ) → undo_from e s k t ≡ undo (undos_of e s k) t
unfolding undo_from undos_of undo
undo-same e s zero t = refl
undo-same e s (suc k) t = undo-same e s k (undo_entry (e (s + suc k)) t) ∙ first (e (s + suc k))
  where
    first : (x : Option Entry) → undo (undos_of e s k) (undo_entry x t) ≡ undo (undo_of x (undos_of e s k)) t
    first (some (update c old new)) = refl
    first (some commit_entry) = refl
    first (some abort_entry) = refl
    first none = refl

module _ (e : ℕ → Option Entry) where
  undos_none : (s k : ℕ) → k ≡ 0 → undos_of e s k ≡ []
  unfolding undos_of
  undos_none s k h = rw h

  undos_more : (s n c old new : ℕ) → s ≤ n → e (n + 1) ≡ some (update c old new) → undos_of e s (n + 1 - s) ≡ (c, old) ∷ undos_of e s (n - s)
  unfolding undos_of
  undos_more s n c old new h p =
      let z : n + 1 - s ≡ suc (n - s) = omega arith in
      let y : s + suc (n - s) ≡ n + 1 = omega arith in
      rw (z, y, p)

  -- entries n+1, n+2, .. are these
  abbrev Holding : ℕ → List Entry → Type 0
  Holding n [] = Unit {0}
  Holding n (x ∷ es) = (e (n + 1) ≡ some x) × Holding (n + 1) es

  replay-next : (left s n : ℕ) (t : List ℕ) (x : Option Entry) → e (n + 1) ≡ x
      → replay_from e (suc left) s n t ≡ onward (open_after x s (n + 1)) (λ s'. replay_from e left s' (n + 1) (replay_entry e x s n t))
  unfolding replay_from
  replay-next left s n t x p = ap (λ y. onward (open_after y s (n + 1)) (λ s'. replay_from e left s' (n + 1) (replay_entry e y s n t))) p

  same-replay : (es : List Entry) (s n : ℕ) (t : List ℕ) → s ≤ n → Holding n es → replay_from e (length es) s n t ≡ some (replay es (undos_of e s (n - s)) t)
  unfolding replay_from replay
  same-replay [] s n t h r = ap some (undo-same e s (n - s) t)
  same-replay (update c old new ∷ es) s n t h r =
      replay-next (length es) s n t (some (update c old new)) r.0 ∙ same-replay es s (n + 1) (set t c new) (omega arith) r.1
      ∙ ap (λ u. some (replay es u (set t c new))) (undos_more s n c old new h r.0)
  same-replay (commit_entry ∷ es) s n t h r =
      replay-next (length es) s n t (some commit_entry) r.0 ∙ same-replay es (n + 1) (n + 1) t (omega arith) r.1
      ∙ ap (λ u. some (replay es u t)) (undos_none (n + 1) (n + 1 - (n + 1)) (omega arith))
  same-replay (abort_entry ∷ es) s n t h r =
      replay-next (length es) s n t (some abort_entry) r.0 ∙ same-replay es (n + 1) (n + 1) (undo_from e s (n - s) t) (omega arith) r.1
      ∙ ap (λ u. some (replay es u (undo_from e s (n - s) t))) (undos_none (n + 1) (n + 1 - (n + 1)) (omega arith))
      ∙ ap (λ x. some (replay es [] x)) (undo-same e s (n - s) t)

-- what a scan of rows gives: each row reads as its entry, and there are not too many

module _ (row : ℕ → List ℕ) (cells : ℕ) where
  record Scanned (left n : ℕ) (es : List Entry) : Type 0 where
    holding : Holding (λ k. read_row cells k (row k)) n es
    few : length es ≤ left

  ended : (left n : ℕ) (es : List Entry) → some [] ≡ some es → Scanned left n es
  ended left n es p = let z : [] ≡ es = cc in subst (Scanned left n) z (record { holding = tt; few = omega arith })

  scanned : (left n : ℕ) (es : List Entry) → entries_from row cells left n ≡ some es → Scanned left n es
  unfolding entries_from
  scanned zero n es p = ended zero n es p
  scanned (suc left) n es p =
      go (eqb (number_at 4 0 (row (n + 1))) (n + 1)) (any_holds row left (n + 1)) (read_row cells (n + 1) (row (n + 1))) refl (entries_from row cells left (n + 1)) (scanned left (n + 1)) p
    where
      go : (b c : Bool) (o : Option Entry) → read_row cells (n + 1) (row (n + 1)) ≡ o → (rest : Option (List Entry))
          → ((xs : List Entry) → rest ≡ some xs → Scanned left (n + 1) xs) → pick b (firstly o rest) (pick c none (some [])) ≡ some es → Scanned (suc left) n es
      go false true o u rest ih q = none≢some q
      go false false o u rest ih q = ended (suc left) n es q
      go true c none u rest ih q = none≢some q
      go true c (some x) u none ih q = none≢some q
      go true c (some x) u (some xs) ih q =
          let z : x ∷ xs ≡ es = cc in
          let f = ih xs refl in
          subst (Scanned (suc left) n) z (record { holding = (u, f.holding); few = omega (arith, f.few) })

module _ (m : List ℕ) (cells slots h : ℕ) where
  -- REPLAY BY ENTRY NUMBERS IS THE JOURNAL'S REPLAY
  pub replay_rows : (es : List Entry) (t : List ℕ) → journal cells slots h m ≡ some es
      → replay_from (entry_in m 32 slots cells) (length es) h h t ≡ some (replay es [] t)
  unfolding journal entry_in
  replay_rows es t p =
      same-replay (entry_in m 32 slots cells) es h h t (omega arith) (scanned (rows_of slots m) cells (at_most slots h) h es p).holding
      ∙ ap (λ u. some (replay es u t)) (undos_none (entry_in m 32 slots cells) h (h - h) (omega arith))

  -- what the last entry that counts says of the journal: it reads, and so many entries come after h
  pub record Last (e : ℕ) : Type 0 where
    pub entries : List Entry
    pub read : journal cells slots h m ≡ some entries
    pub last : e ≡ h + length entries

  pub last_some : (e : ℕ) → last_of h (journal cells slots h m) ≡ some e → Last e
  last_some e p = go (journal cells slots h m) refl p
    where
      go : (o : Option (List Entry)) → journal cells slots h m ≡ o → last_of h o ≡ some e → Last e
      go none q r = none≢some r
      go (some es) q r = record { entries = es; read = q; last = cc }

  pub last_none : last_of h (journal cells slots h m) ≡ none → journal cells slots h m ≡ none
  last_none p = go (journal cells slots h m) refl p
    where
      go : (o : Option (List Entry)) → journal cells slots h m ≡ o → last_of h o ≡ none → journal cells slots h m ≡ none
      go none q r = q
      go (some es) q r = none≢some (sym r)

  pub last_fits : (e : ℕ) → last_of h (journal cells slots h m) ≡ some e → h < 4294967296 → (h ≤ e) × (e < 4294967296)
  unfolding journal
  last_fits e p k =
      let l = last_some e p in
      let f = scanned (rows_of slots m) cells (at_most slots h) h l.entries l.read in
      (omega (arith, l.last), omega (arith, l.last, f.few, most_fits slots h k))
