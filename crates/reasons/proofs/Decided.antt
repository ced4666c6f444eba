-- THE DECISION IS RIGHT, over any list of entries and any table: by induction on the entries, with what those read so far say carried along.
-- Where the open transaction has not touched the cell, the ended ones decide, and nothing after them names it. Where it has, its first update has the
-- value that undoing gives, and its last the value now, whatever was there before.
use Prim.Native.Nat.{ℕ, ◌+◌, ◌<◌}
use mathlib.Core.Path.{◌≡◌, refl, sym, ap, ◌∙◌, subst}
use mathlib.Core.Bool.{Bool, true, false, ◌||◌}
use mathlib.Core.Logic.{◌⊎◌, inl, inr}
use mathlib.Core.List.{List, [], ◌∷◌, ◌++◌, append_assoc, append-nil}
use native.Mathlib.Omega.{arith}
use lib.Dec.{eqb}
use lib.ListN.{length, get_or, set, length-append, length-set}
use borrow.Author.Tests.{eqb-true, eq-eqb, ne_eqb}
use Rattle.scope.specs.Bytes.{pick}
use Rattle.scope.specs.Row.{Entry, update, commit_entry, abort_entry}
use Rattle.scope.specs.Keeper.{first_mark}
use Rattle.scope.specs.Recovery.{undo, replay}
use Rattle.scope.specs.Demands.{names}
use Rattle.scope.proofs.Values.{Assignments, val, hit, val_miss, val_hit}
use Rattle.scope.proofs.Journal.{set_at}
use Rattle.reasons.specs.declared.Reason.{Reason}
use Rattle.reasons.specs.declared.Reason.TheVariants.{Table, Written, Restored}
use Rattle.reasons.specs.declared.Decision.{Decision}
use Rattle.reasons.specs.declared.Told.{Told}
use Rattle.reasons.specs.Reason.{untold, written, restored, told, tale, why}
use Rattle.reasons.specs.Claim.{open_of, only_updates, Update, Last, First, Ended, Claimed, Claims}

-- undoing, at one cell
length-undo : (u : Assignments) (t : List ℕ) → length (undo u t) ≡ length t
unfolding undo
length-undo [] t = refl
length-undo (x ∷ u) t = length-undo u (set t x.0 x.1) ∙ length-set t x.0 x.1

undo-at : (u : Assignments) (t : List ℕ) (c : ℕ) → c < length t → get_or (undo u t) c 0 ≡ val c u (get_or t c 0)
unfolding undo
undo-at [] t c h = refl
undo-at (x ∷ u) t c h = undo-at u (set t x.0 x.1) c (omega (arith, length-set t x.0 x.1)) ∙ ap (val c u) (set_at t x.0 x.1 c h)

-- an entry after others
names-append : (c : ℕ) (xs ys : List Entry) → names c xs ≡ false → names c ys ≡ false → names c (xs ++ ys) ≡ false
names-append c [] ys p q = q
names-append c (update d a w ∷ xs) ys p q = go (eqb c d) p (names-append c xs ys)
  where
    go : (t : Bool) → (t || names c xs) ≡ false → (names c xs ≡ false → names c ys ≡ false → names c (xs ++ ys) ≡ false) → (t || names c (xs ++ ys)) ≡ false
    go true e ih = e
    go false e ih = ih e q
names-append c (commit_entry ∷ xs) ys p q = names-append c xs ys p q
names-append c (abort_entry ∷ xs) ys p q = names-append c xs ys p q

updates_append : (xs ys : List Entry) → only_updates xs ≡ true → only_updates ys ≡ true → only_updates (xs ++ ys) ≡ true
updates_append [] ys p q = q
updates_append (update d a w ∷ xs) ys p q = updates_append xs ys p q
updates_append (commit_entry ∷ xs) ys p q = p
updates_append (abort_entry ∷ xs) ys p q = p

open_append : (u xs ys : List Entry) → open_of u (xs ++ ys) ≡ open_of (open_of u xs) ys
open_append u [] ys = refl
open_append u (update d a w ∷ xs) ys = open_append (u ++ (update d a w ∷ [])) xs ys
open_append u (commit_entry ∷ xs) ys = open_append [] xs ys
open_append u (abort_entry ∷ xs) ys = open_append [] xs ys

module _ (c h : ℕ) where
  -- what the ended transactions decide: as claimed, and none is without its end
  abbrev Settles : List Entry → ℕ → ℕ → Reason → ℕ → ℕ → Type 0
  Settles b held v Table entry end = Claimed c h b held v Table entry end
  Settles b held v Written entry end = Claimed c h b held v Written entry end
  Settles b held v Restored entry end = (ours : List Entry) × First c h ours v entry × Ended abort_entry c h b ours end

  settled : (b : List Entry) (held v : ℕ) (r : Reason) (entry end : ℕ) → Settles b held v r entry end → Claimed c h b held v r entry end
  settled b held v Table entry end s = s
  settled b held v Written entry end s = s
  settled b held v Restored entry end s = inl s

  ended-more : (k : Entry) (b ours : List Entry) (end : ℕ) (e : Entry) → names c (e ∷ []) ≡ false → Ended k c h b ours end → Ended k c h (b ++ (e ∷ [])) ours end
  ended-more k b ours end e m x =
      record {
        later = x.later ++ (e ∷ []);
        cut = ap (λ l. l ++ (e ∷ [])) x.cut ∙ append_assoc ours (k ∷ x.later) (e ∷ []);
        number = x.number;
        none-later = names-append c x.later (e ∷ []) x.none-later m;
      }

  settles_more : (b : List Entry) (held v : ℕ) (r : Reason) (entry end : ℕ) (e : Entry) → names c (e ∷ []) ≡ false
      → Settles b held v r entry end → Settles (b ++ (e ∷ [])) held v r entry end
  settles_more b held v Table entry end e m s = (names-append c b (e ∷ []) s.0 m, s.1, s.2, s.3)
  settles_more b held v Written entry end e m s = (s.0, s.1, ended-more commit_entry b s.0 end e m s.2)
  settles_more b held v Restored entry end e m s = (s.0, s.1, ended-more abort_entry b s.0 end e m s.2)

  -- an update of the cell, now and after one more of its transaction
  abbrev here : (b : List Entry) (a w : ℕ) → Update c h (b ++ (update c a w ∷ [])) (h + length b + 1)
  here b a w = record { old = a; new = w; before = b; own = []; cut = refl; one = refl; number = refl }

  abbrev update-more : (b : List Entry) (entry d a w : ℕ) → Update c h b entry → Update c h (b ++ (update d a w ∷ [])) entry
  update-more b entry d a w x =
      record {
        old = x.old;
        new = x.new;
        before = x.before;
        own = x.own ++ (update d a w ∷ []);
        cut = ap (λ l. l ++ (update d a w ∷ [])) x.cut ∙ append_assoc x.before (update c x.old x.new ∷ x.own) (update d a w ∷ []);
        one = updates_append x.own (update d a w ∷ []) x.one refl;
        number = x.number;
      }

  -- the entries b, read so far, say t; u undoes the open transaction, and v is the cell's value now
  record Quiet (held : ℕ) (b : List Entry) (t : Told) (u : Assignments) (v : ℕ) : Type 0 where
    pub none : t.first ≡ 0
    pub untouched : hit c u ≡ false
    pub unnamed : names c (open_of [] b) ≡ false
    pub ended : Settles b held v t.ended.reason t.ended.entry t.ended.end

  record Touched (b : List Entry) (t : Told) (u : Assignments) (v : ℕ) : Type 0 where
    pub some : 0 < t.first
    pub touched : hit c u ≡ true
    pub first : First c h b (val c u v) t.first
    pub last : Last c h b v t.last

  abbrev Says : ℕ → List Entry → Told → Assignments → ℕ → Type 0
  Says held b t u v = Quiet held b t u v ⊎ Touched b t u v

  -- an update of another cell, and one of this
  other : (held : ℕ) (b : List Entry) (t : Told) (u : Assignments) (v d a w : ℕ) → eqb c d ≡ false → Says held b t u v
      → Says held (b ++ (update d a w ∷ [])) t ((d, a) ∷ u) v
  other held b t u v d a w e (inl q) =
      let m : names c (update d a w ∷ []) ≡ false = rw e refl in
      inl (record {
        none = q.none;
        untouched = rw e q.untouched;
        unnamed = rw (open_append [] b (update d a w ∷ [])) (names-append c (open_of [] b) (update d a w ∷ []) q.unnamed m);
        ended = settles_more b held v t.ended.reason t.ended.entry t.ended.end (update d a w) m q.ended;
      })
  other held b t u v d a w e (inr q) =
      let m : names c (update d a w ∷ []) ≡ false = rw e refl in
      inr (record {
        some = q.some;
        touched = rw e q.touched;
        first = record {
          it = update-more b t.first d a w q.first.it;
          none_earlier = q.first.none_earlier;
          value = rw e q.first.value;
        };
        last = record {
          it = update-more b t.last d a w q.last.it;
          none-later = names-append c q.last.it.own (update d a w ∷ []) q.last.none-later m;
          value = q.last.value;
        };
      })

  eqb_same : (x : ℕ) → eqb x x ≡ true
  eqb_same x = eq-eqb x x refl

  this : (held : ℕ) (b : List Entry) (t : Told) (u : Assignments) (v a w : ℕ) → Says held b t u v
      → Says held (b ++ (update c a w ∷ [])) (record { first = first_mark t.first (h + length b + 1); last = h + length b + 1; ended = t.ended }) ((c, a) ∷ u) w
  unfolding first_mark
  this held b t u v a w (inl q) =
      inr (record {
        some = rw q.none (omega arith);
        touched = rw (eqb_same c) refl;
        first = rw q.none (record { it = here b a w; none_earlier = q.unnamed; value = rw (eqb_same c) (sym (val_miss c u a q.untouched)) });
        last = record { it = here b a w; none-later = refl; value = refl };
      })
  this held b t u v a w (inr q) =
      let z : eqb t.first 0 ≡ false = ne_eqb t.first 0 (λ e. omega (arith, q.some)) in
      inr (record {
        some = rw z q.some;
        touched = rw (eqb_same c) refl;
        first = rw z (record {
          it = update-more b t.first c a w q.first.it;
          none_earlier = q.first.none_earlier;
          value = rw (eqb_same c) (q.first.value ∙ val_hit c u v a q.touched);
        });
        last = record { it = here b a w; none-later = refl; value = refl };
      })

  updated : (held : ℕ) (b : List Entry) (t : Told) (u : Assignments) (v d a w : ℕ) → Says held b t u v
      → Says held (b ++ (update d a w ∷ [])) (told c (h + length b + 1) (update d a w) t) ((d, a) ∷ u) (pick (eqb c d) w v)
  unfolding told
  updated held b t u v d a w s = go (eqb c d) refl
    where
      go : (x : Bool) → eqb c d ≡ x
          → Says held (b ++ (update d a w ∷ [])) (pick x (record { first = first_mark t.first (h + length b + 1); last = h + length b + 1; ended = t.ended }) t) ((d, a) ∷ u) (pick x w v)
      go true e =
          subst (λ k. Says held (b ++ (update k a w ∷ [])) (record { first = first_mark t.first (h + length b + 1); last = h + length b + 1; ended = t.ended }) ((k, a) ∷ u) w) (eqb-true c d e)
          (this held b t u v a w s)
      go false e = other held b t u v d a w e s

  -- an end: nothing is open then
  after-end : (held : ℕ) (b : List Entry) (e : Entry) (v : ℕ) (d : Decision) → names c (open_of [] (b ++ (e ∷ []))) ≡ false
      → Settles (b ++ (e ∷ [])) held v d.reason d.entry d.end → Says held (b ++ (e ∷ [])) (record { first = 0; last = 0; ended = d }) [] v
  after-end held b e v d m s = inl (record { none = refl; untouched = refl; unnamed = m; ended = s })

  committed : (held : ℕ) (b : List Entry) (t : Told) (u : Assignments) (v : ℕ) → Says held b t u v
      → Says held (b ++ (commit_entry ∷ [])) (told c (h + length b + 1) commit_entry t) [] v
  unfolding told written
  committed held b t u v s =
      after-end held b commit_entry v (written (h + length b + 1) t) (rw (open_append [] b (commit_entry ∷ [])) refl) (go s)
    where
      of : Decision → Type 0
      of d = Settles (b ++ (commit_entry ∷ [])) held v d.reason d.entry d.end

      go : Says held b t u v → of (pick (eqb t.first 0) t.ended (record { reason = Written; entry = t.last; end = h + length b + 1 }))
      go (inl q) =
          let z : eqb t.first 0 ≡ true = eq-eqb t.first 0 q.none in
          subst (λ x. of (pick x t.ended (record { reason = Written; entry = t.last; end = h + length b + 1 }))) (sym z)
          (settles_more b held v t.ended.reason t.ended.entry t.ended.end commit_entry refl q.ended)
      go (inr q) =
          let z : eqb t.first 0 ≡ false = ne_eqb t.first 0 (λ e. omega (arith, q.some)) in
          subst (λ x. of (pick x t.ended (record { reason = Written; entry = t.last; end = h + length b + 1 }))) (sym z)
          (b, q.last, record { later = []; cut = refl; number = refl; none-later = refl })

  aborted : (held : ℕ) (b : List Entry) (t : Told) (u : Assignments) (v : ℕ) → Says held b t u v
      → Says held (b ++ (abort_entry ∷ [])) (told c (h + length b + 1) abort_entry t) [] (val c u v)
  unfolding told restored
  aborted held b t u v s =
      after-end held b abort_entry (val c u v) (restored (h + length b + 1) t) (rw (open_append [] b (abort_entry ∷ [])) refl) (go s)
    where
      of : ℕ → Decision → Type 0
      of x d = Settles (b ++ (abort_entry ∷ [])) held x d.reason d.entry d.end

      go : Says held b t u v → of (val c u v) (pick (eqb t.first 0) t.ended (record { reason = Restored; entry = t.first; end = h + length b + 1 }))
      go (inl q) =
          let z : eqb t.first 0 ≡ true = eq-eqb t.first 0 q.none in
          subst (λ x. of (val c u v) (pick x t.ended (record { reason = Restored; entry = t.first; end = h + length b + 1 }))) (sym z)
          (subst (λ x. of x t.ended) (sym (val_miss c u v q.untouched))
          (settles_more b held v t.ended.reason t.ended.entry t.ended.end abort_entry refl q.ended))
      go (inr q) =
          let z : eqb t.first 0 ≡ false = ne_eqb t.first 0 (λ e. omega (arith, q.some)) in
          subst (λ x. of (val c u v) (pick x t.ended (record { reason = Restored; entry = t.first; end = h + length b + 1 }))) (sym z)
          (b, q.first, record { later = []; cut = refl; number = refl; none-later = refl })

  -- what is left without an end is undone
  closed : (held : ℕ) (b : List Entry) (t : Told) (u : Assignments) (v : ℕ) → Says held b t u v → Claims c h b held (val c u v) (restored 0 t)
  unfolding restored
  closed held b t u v (inl q) =
      let z : eqb t.first 0 ≡ true = eq-eqb t.first 0 q.none in
      subst (λ x. Claims c h b held (val c u v) (pick x t.ended (record { reason = Restored; entry = t.first; end = 0 }))) (sym z)
      (subst (λ x. Claims c h b held x t.ended) (sym (val_miss c u v q.untouched))
      (settled b held v t.ended.reason t.ended.entry t.ended.end q.ended))
  closed held b t u v (inr q) =
      let z : eqb t.first 0 ≡ false = ne_eqb t.first 0 (λ e. omega (arith, q.some)) in
      subst (λ x. Claims c h b held (val c u v) (pick x t.ended (record { reason = Restored; entry = t.first; end = 0 }))) (sym z)
      (inr (q.first, refl))

  -- entries after those read
  all : (held : ℕ) (es b : List Entry) (n : ℕ) (s : Told) (u : Assignments) (t : List ℕ) → n ≡ h + length b → c < length t → Says held b s u (get_or t c 0)
      → Claims c h (b ++ es) held (get_or (replay es u t) c 0) (restored 0 (tale c n es s))
  unfolding replay tale
  all held [] b n s u t e l x =
      subst (λ k. Claims c h k held (get_or (undo u t) c 0) (restored 0 s)) (sym (append-nil b))
      (subst (λ k. Claims c h b held k (restored 0 s)) (sym (undo-at u t c l)) (closed held b s u (get_or t c 0) x))
  all held (update d a w ∷ es) b n s u t e l x =
      subst (λ k. Claims c h k held (get_or (replay es ((d, a) ∷ u) (set t d w)) c 0) (restored 0 (tale c (n + 1) es (told c (n + 1) (update d a w) s)))) (append_assoc b (update d a w ∷ []) es)
      (all held es (b ++ (update d a w ∷ [])) (n + 1) (told c (n + 1) (update d a w) s) ((d, a) ∷ u) (set t d w) (simp length-append (omega arith)) (omega (arith, length-set t d w))
      (rw (set_at t d w c l, e) (updated held b s u (get_or t c 0) d a w x)))
  all held (commit_entry ∷ es) b n s u t e l x =
      subst (λ k. Claims c h k held (get_or (replay es [] t) c 0) (restored 0 (tale c (n + 1) es (told c (n + 1) commit_entry s)))) (append_assoc b (commit_entry ∷ []) es)
      (all held es (b ++ (commit_entry ∷ [])) (n + 1) (told c (n + 1) commit_entry s) [] t (simp length-append (omega arith)) l
      (rw e (committed held b s u (get_or t c 0) x)))
  all held (abort_entry ∷ es) b n s u t e l x =
      subst (λ k. Claims c h k held (get_or (replay es [] (undo u t)) c 0) (restored 0 (tale c (n + 1) es (told c (n + 1) abort_entry s)))) (append_assoc b (abort_entry ∷ []) es)
      (all held es (b ++ (abort_entry ∷ [])) (n + 1) (told c (n + 1) abort_entry s) [] (undo u t) (simp length-append (omega arith)) (omega (arith, length-undo u t))
      (rw (undo-at u t c l, e) (aborted held b s u (get_or t c 0) x)))

  -- from the table on
  pub decided : (es : List Entry) (t : List ℕ) → c < length t → Claims c h es (get_or t c 0) (get_or (replay es [] t) c 0) (why c h es)
  unfolding why untold
  decided es t l =
      all (get_or t c 0) es [] h untold [] t (omega arith) l
      (inl (record { none = refl; untouched = refl; unnamed = refl; ended = (refl, refl, refl, refl) }))
