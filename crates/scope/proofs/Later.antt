-- Later never takes back: what a history tells as stored only grows at its end, event by event, and demand 3 says that recovery gives the table of
-- what is stored.
use Prim.Native.Nat.{ℕ, zero, suc}
use mathlib.Core.Path.{◌≡◌, refl, sym, ap, ◌∙◌}
use mathlib.Core.Bool.{Bool, true, false}
use mathlib.Core.Logic.{◌≢◌}
use mathlib.Core.List.{List, [], ◌∷◌, ◌++◌, append_assoc, append-nil}
use lib.Dec.{eqb}
use lib.ListN.{replicate}
use Rattle.scope.specs.Bytes.{pick}
use Rattle.scope.specs.Keeper.{Keeper, Answer, refusal_of, value_of}
use Rattle.scope.specs.Refusals.{Format, RecoveryStart, RecoveryStep, Begin, Commit, Abort, Force, TableView, Read, WriteBack, Cut, Look, Write}
use Rattle.scope.specs.History.{Event, call, appends, power_loss, happen, answers, allowed, Allowed, formatted, History, reached, Writes, Transactions, nothing_yet, entry_stored, entry_made, writes_of, all_stored, lost, if_done, accepted, tell, story, transactions, afresh}
use Rattle.scope.specs.Demands.{RecoversTo, Later}
use Rattle.scope.proofs.Demand3.{ends_soon}

-- what is stored grows at its end
abbrev Grows : Transactions → Transactions → Type 0
Grows t t' = (ws : List Writes) × (t'.stored ≡ t.stored ++ ws)

kept : (t t' : Transactions) → t'.stored ≡ t.stored → Grows t t'
kept t t' e = ([], e ∙ sym (append-nil t.stored))

if-done : (t : Transactions) (r : Answer) (f : ℕ → Transactions) → ((v : ℕ) → Grows t (f v)) → Grows t (accepted r f t)
if-done t r f g = go (refusal_of r)
  where
    go : (n : ℕ) → Grows t (if_done n (f (value_of r)) t)
    go zero = g (value_of r)
    go (suc n) = kept t t refl

same-stored : (t : Transactions) (r : Answer) (f : ℕ → Transactions) → ((v : ℕ) → (f v).stored ≡ t.stored) → Grows t (accepted r f t)
same-stored t r f e = if-done t r f (λ v. kept t (f v) (e v))

stored_grows : (t : Transactions) (n : ℕ) → Grows t (entry_stored n t.stored t.made t.begun)
stored_grows t n = go t.made
  where
    at : (x : ℕ × Writes) (xs : List (ℕ × Writes)) (b : Bool)
        → Grows t (pick b (record { stored = t.stored ++ (x.1 ∷ []); made = xs; begun = t.begun }) (record { stored = t.stored; made = x ∷ xs; begun = t.begun }))
    at x xs true = (x.1 ∷ [], refl)
    at x xs false = kept t (record { stored = t.stored; made = x ∷ xs; begun = t.begun }) refl

    go : (xs : List (ℕ × Writes)) → Grows t (entry_stored n t.stored xs t.begun)
    go [] = kept t (record { stored = t.stored; made = []; begun = t.begun }) refl
    go (x ∷ xs) = at x xs (eqb x.0 n)

declined : (t : Transactions) (r : Answer) (f : ℕ → Transactions) → refusal_of r ≢ 0 → Grows t (accepted r f t)
declined t r f ne = go (refusal_of r) ne
  where
    go : (n : ℕ) → n ≢ 0 → Grows t (if_done n (f (value_of r)) t)
    go zero e = absurd (e refl)
    go (suc n) e = kept t t refl

-- by one event
one : (L : Type 0) (e : Event) (r : Answer) (t : Transactions) → allowed L e r → Grows t (tell e r t)
one L (call (Format n c)) r t p = declined t r (λ v. nothing_yet) p
one L (call RecoveryStart) r t p = kept t (lost t) refl
one L (call RecoveryStep) r t p = kept t t refl
one L (call Begin) r t p = same-stored t r (λ v. record { stored = t.stored; made = t.made; begun = [] }) (λ v. refl)
one L (call Commit) r t p = if-done t r (λ v. all_stored (entry_made v t)) (λ v. (writes_of (entry_made v t).made, refl))
one L (call Abort) r t p = same-stored t r (λ v. record { stored = t.stored; made = t.made; begun = [] }) (λ v. refl)
one L (call Force) r t p = if-done t r (λ v. entry_stored v t.stored t.made t.begun) (λ v. stored_grows t v)
one L (call TableView) r t p = kept t t refl
one L (call (Read c)) r t p = kept t t refl
one L (call (WriteBack c)) r t p = kept t t refl
one L (call (Cut q)) r t p = kept t t refl
one L (call (Look n)) r t p = kept t t refl
one L (call (Write c v)) r t p = same-stored t r (λ x. record { stored = t.stored; made = t.made; begun = t.begun ++ ((c, v) ∷ []) }) (λ x. refl)
one L appends r t p = same-stored t r (λ v. entry_made v t) (λ v. refl)
one L (power_loss c f l w) r t p = kept t (lost t) refl

both : (t u v : Transactions) → Grows t u → Grows u v → Grows t v
both t u v (ws, p) (xs, q) = (ws ++ xs, q ∙ ap (λ z. z ++ xs) p ∙ append_assoc t.stored ws xs)

-- by events, and from the end of the first of them
all : (L : Type 0) (ds : List Event) (k : Keeper) (t : Transactions) → Allowed L ds k → Grows t (story ds (answers ds k) t)
unfolding answers
all L [] k t p = kept t t refl
all L (e ∷ ds) k t p =
    let r = happen e k in
    both t (tell e r.answer t) (story ds (answers ds r.keeper) (tell e r.answer t)) (one L e r.answer t p.0) (all L ds r.keeper (tell e r.answer t) p.1)

after-some : (L : Type 0) (es ds : List Event) (k : Keeper) (t : Transactions) → Allowed L (es ++ ds) k
    → Allowed L es k × Grows (story es (answers es k) t) (story (es ++ ds) (answers (es ++ ds) k) t)
unfolding answers
after-some L [] ds k t p = (tt, all L ds k t p)
after-some L (e ∷ es) ds k t p =
    let rest = after-some L es ds (happen e k).keeper (tell e (happen e k).answer t) p.1 in
    ((p.0, rest.0), rest.1)

-- recovery gives the table of what is stored
pub recovers : (n c : ℕ) (k : Keeper) (es : List Event) → History n c k es → (ws : List Writes) → (transactions n c k es).stored ≡ ws
    → RecoversTo n c (reached n c k es) (afresh ws (replicate n 0))
recovers n c k es h ws e g m s =
    let r = ends_soon n c k es h g m s in (r.0, (r.2.0, r.2.1 ∙ ap (λ x. afresh x (replicate n 0)) e))

-- LATER NEVER TAKES BACK
pub later : Later
later n c k es ds h =
    let r = after-some (Unit {0}) es ds (formatted n c k) nothing_yet h.1 in
    (r.1.0, r.1.1, recovers n c k es (h.0, r.0) _ refl, recovers n c k (es ++ ds) h _ r.1.1)
