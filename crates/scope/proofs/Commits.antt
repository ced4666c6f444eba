-- Commit that means it, over histories: demand 3 counts the call as it counts its steps, and with power lost inside it the first few of the
-- transactions that were made are recovered, each whole. By the steps' own story, and by demand 3 for the table that recovery gives.
use Prim.Native.Nat.{ℕ, zero, suc, ◌+◌, ◌-◌}
use mathlib.Core.Path.{◌≡◌, refl, sym, ap, ◌∙◌, subst}
use mathlib.Core.Logic.{◌⊎◌, inl, inr}
use mathlib.Core.List.{List, [], ◌∷◌, ◌++◌, append-nil}
use native.Mathlib.Omega.{arith}
use lib.ListN.{length, replicate}
use Rattle.scope.specs.Keeper.{Keeper, Answer, done, refusal_of, value_of}
use Rattle.scope.specs.Refusals.{Format, RecoveryStart, RecoveryStep, Begin, Commit, Abort, Force, TableView, Read, WriteBack, Cut, Look, Write, refusal}
use Rattle.scope.specs.Calls.{act}
use Rattle.scope.specs.History.{Event, call, appends, power_loss, happen, answers, after, Allowed, formatted, History, reached, Writes, Transactions, nothing_yet, entry_stored, entry_made, writes_of, all_stored, if_done, accepted, tell, story, transactions, afresh}
use Rattle.scope.specs.Demands.{RecoversTo, commit_steps, rising_from, CommitCounts, InsideCommit, WholeCommits, NoneWaits, WholeOrNot, CommitMeansIt}
use Rattle.scope.proofs.Entries.{writes_of_append}
use Rattle.scope.proofs.CommitCall.{accepted_commit, made-first, commit_is_steps}
use Rattle.scope.proofs.ForceStory.{FirstFew, few_forces}
use Rattle.scope.proofs.Histories.{steps-told}
use Rattle.scope.proofs.Demand3.{safe}
use Rattle.scope.proofs.Later.{recovers}

-- events after others
allowed_then : (L : Type 0) (es ds : List Event) (k : Keeper) → Allowed L es k → Allowed L ds (after es k) → Allowed L (es ++ ds) k
unfolding after
allowed_then L [] ds k p q = q
allowed_then L (e ∷ es) ds k p q = (p.0, allowed_then L es ds (happen e k).keeper p.1 q)

story_then : (es ds : List Event) (k : Keeper) (t : Transactions)
    → story (es ++ ds) (answers (es ++ ds) k) t ≡ story ds (answers ds (after es k)) (story es (answers es k) t)
unfolding answers after
story_then [] ds k t = refl
story_then (e ∷ es) ds k t = story_then es ds (happen e k).keeper (tell e (happen e k).answer t)

forces_allowed : (j : ℕ) (k : Keeper) → Allowed (Unit {0}) (replicate j (call Force)) k
forces_allowed zero k = tt
forces_allowed (suc j) k = (tt, forces_allowed j (happen (call Force) k).keeper)

module _ (n c : ℕ) (k : Keeper) (es : List Event) (h : History n c k es) (v : ℕ) (a : (act Commit (reached n c k es)).answer ≡ done v) where
  abbrev g : Keeper
  g = reached n c k es

  abbrev t : Transactions
  t = transactions n c k es

  e : refusal Commit g ≡ 0
  e = (accepted_commit g v a).0

  v≡ : v ≡ g.state.l + 1
  v≡ = (accepted_commit g v a).1

  -- what the history tells after the call, and after its steps
  whole : transactions n c k (es ++ (call Commit ∷ [])) ≡ all_stored (entry_made v t)
  unfolding answers happen
  whole = story_then es (call Commit ∷ []) (formatted n c k) nothing_yet ∙ ap (λ r. tell (call Commit) r t) a

  in_steps : transactions n c k (es ++ commit_steps g) ≡ all_stored (entry_made v t)
  in_steps =
      story_then es (commit_steps g) (formatted n c k) nothing_yet
      ∙ ap (λ rs. story (commit_steps g) rs t) (commit_is_steps g v a).1
      ∙ ap (λ x. story (replicate (g.state.l + 1 - g.state.f) (call Force)) (rising_from g.state.f (g.state.l + 1 - g.state.f)) (entry_made x t)) v≡
      ∙ steps-told n c g t e (safe n c k es h) ∙ ap (λ x. all_stored (entry_made x t)) (sym v≡)

  -- the transactions that were made, this one last
  all_made : writes_of (entry_made v t).made ≡ writes_of t.made ++ (t.begun ∷ [])
  all_made = writes_of_append t.made ((v, t.begun) ∷ [])

  whole_history : History n c k (es ++ (call Commit ∷ []))
  whole_history = (h.0, allowed_then (Unit {0}) es (call Commit ∷ []) (formatted n c k) h.1 (tt, tt))

  -- the first step and some of force's
  module _ (j : ℕ) where
    abbrev some : List Event
    some = appends ∷ replicate j (call Force)

    some_history : History n c k (es ++ some)
    some_history = (h.0, allowed_then (Unit {0}) es some (formatted n c k) h.1 (tt, forces_allowed j (happen appends g).keeper))

    some-told : transactions n c k (es ++ some) ≡ story (replicate j (call Force)) (answers (replicate j (call Force)) (happen appends g).keeper) (entry_made v t)
    unfolding answers
    some-told =
        story_then es some (formatted n c k) nothing_yet
        ∙ ap (λ r. story (replicate j (call Force)) (answers (replicate j (call Force)) (happen appends g).keeper) (tell appends r t)) (ap (λ o. o.answer) (made-first g e) ∙ ap done (sym v≡))

    few : FirstFew (entry_made v t) (transactions n c k (es ++ some))
    few = subst (FirstFew (entry_made v t)) (sym some-told) (few_forces j (answers (replicate j (call Force)) (happen appends g).keeper) (entry_made v t))

pub commit_counts : CommitCounts
commit_counts n c k es h v a =
    let w = whole n c k es h v a in (
      w ∙ sym (in_steps n c k es h v a),
      ap (λ (t : Transactions). t.stored) w ∙ ap (λ x. (transactions n c k es).stored ++ x) (all_made n c k es h v a),
      recovers n c k (es ++ (call Commit ∷ [])) (whole_history n c k es h v a) _ refl,
    )

pub inside_commit : InsideCommit
inside_commit n c k es h v a j =
    let f = few n c k es h v a j in (
      f.ws,
      writes_of (transactions n c k (es ++ (appends ∷ replicate j (call Force)))).made,
      f.rest≡ ∙ all_made n c k es h v a,
      f.stored≡,
      recovers n c k (es ++ (appends ∷ replicate j (call Force))) (some_history n c k es h v a j) _ f.stored≡,
    )

-- where no commit is cut short, none waits
if_accepted : (r : Answer) (f : ℕ → Transactions) (t : Transactions) → ((v : ℕ) → (f v).made ≡ []) → t.made ≡ [] → (accepted r f t).made ≡ []
if_accepted r f t p q = go (refusal_of r)
  where
    go : (n : ℕ) → (if_done n (f (value_of r)) t).made ≡ []
    go zero = p (value_of r)
    go (suc n) = q

stored-none : (v : ℕ) (ws : List Writes) (xs : List (ℕ × Writes)) (w : Writes) → xs ≡ [] → (entry_stored v ws xs w).made ≡ []
stored-none v ws xs w e = ap (λ x. (entry_stored v ws x w).made) e

told_none : (es : List Event) (rs : List Answer) (t : Transactions) → WholeCommits es → t.made ≡ [] → (story es rs t).made ≡ []
told_none [] rs t w e = e
told_none (x ∷ es) [] t w e = e
told_none (call (Format n c) ∷ es) (r ∷ rs) t w e = told_none es rs _ w (if_accepted r (λ v. nothing_yet) t (λ v. refl) e)
told_none (call RecoveryStart ∷ es) (r ∷ rs) t w e = told_none es rs _ w refl
told_none (call RecoveryStep ∷ es) (r ∷ rs) t w e = told_none es rs _ w e
told_none (call Begin ∷ es) (r ∷ rs) t w e = told_none es rs _ w (if_accepted r (λ v. record { stored = t.stored; made = t.made; begun = [] }) t (λ v. e) e)
told_none (call Commit ∷ es) (r ∷ rs) t w e = told_none es rs _ w (if_accepted r (λ v. all_stored (entry_made v t)) t (λ v. refl) e)
told_none (call Abort ∷ es) (r ∷ rs) t w e = told_none es rs _ w (if_accepted r (λ v. record { stored = t.stored; made = t.made; begun = [] }) t (λ v. e) e)
told_none (call Force ∷ es) (r ∷ rs) t w e =
    told_none es rs _ w (if_accepted r (λ v. entry_stored v t.stored t.made t.begun) t (λ v. stored-none v t.stored t.made t.begun e) e)
told_none (call TableView ∷ es) (r ∷ rs) t w e = told_none es rs _ w e
told_none (call (Read c) ∷ es) (r ∷ rs) t w e = told_none es rs _ w e
told_none (call (WriteBack c) ∷ es) (r ∷ rs) t w e = told_none es rs _ w e
told_none (call (Cut p) ∷ es) (r ∷ rs) t w e = told_none es rs _ w e
told_none (call (Look n) ∷ es) (r ∷ rs) t w e = told_none es rs _ w e
told_none (call (Write c v) ∷ es) (r ∷ rs) t w e =
    told_none es rs _ w (if_accepted r (λ x. record { stored = t.stored; made = t.made; begun = t.begun ++ ((c, v) ∷ []) }) t (λ x. e) e)
told_none (appends ∷ es) (r ∷ rs) t w e = absurd w
told_none (power_loss c f l x ∷ es) (r ∷ rs) t w e = told_none es rs _ w refl

pub none_waits : NoneWaits
none_waits n c k es w = told_none es (answers es (formatted n c k)) nothing_yet w refl

-- so it is the whole transaction, or nothing of it
one_or_none : (x : Writes) (ws rest : List Writes) → ws ++ rest ≡ x ∷ [] → (ws ≡ []) ⊎ (ws ≡ x ∷ [])
one_or_none x [] rest e = inl refl
one_or_none x (w ∷ []) rest e = inr (ap (λ y. y ∷ []) (same e))
  where
    same : {a b : Writes} {xs ys : List Writes} → a ∷ xs ≡ b ∷ ys → a ≡ b
    same e = cc
one_or_none x (w ∷ y ∷ ws) rest e = let z : length (w ∷ y ∷ (ws ++ rest)) ≡ 1 = ap length e in absurd (omega arith)

pub whole_or_not : WholeOrNot
whole_or_not n c k es h w v a j =
    let r = inside_commit n c k es h v a j in
    go r.0 (one_or_none (transactions n c k es).begun r.0 r.1 (r.2 ∙ ap (λ m. writes_of m ++ ((transactions n c k es).begun ∷ [])) (none_waits n c k es w))) r.4
  where
    lost_then : Keeper
    lost_then = reached n c k (es ++ (appends ∷ replicate j (call Force)))

    before : List Writes
    before = (transactions n c k es).stored

    go : (ws : List Writes) → (ws ≡ []) ⊎ (ws ≡ (transactions n c k es).begun ∷ []) → RecoversTo n c lost_then (afresh (before ++ ws) (replicate n 0))
        → RecoversTo n c lost_then (afresh before (replicate n 0)) ⊎ RecoversTo n c lost_then (afresh (before ++ ((transactions n c k es).begun ∷ [])) (replicate n 0))
    go ws (inl e) r = inl (subst (λ x. RecoversTo n c lost_then (afresh x (replicate n 0))) (ap (λ x. before ++ x) e ∙ append-nil before) r)
    go ws (inr e) r = inr (subst (λ x. RecoversTo n c lost_then (afresh (before ++ x) (replicate n 0))) e r)

pub commit_means_it : CommitMeansIt
commit_means_it = record { is_steps = commit_is_steps; counts = commit_counts; inside = inside_commit; none_waits = none_waits; whole_or_not = whole_or_not }
