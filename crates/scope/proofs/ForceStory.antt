-- What forces count: of the commits that were made, the first few are stored, in order. By going through the answers.
use Prim.Native.Nat.{ℕ, zero, suc}
use mathlib.Core.Path.{◌≡◌, refl, sym, ap, ◌∙◌}
use mathlib.Core.Bool.{Bool, true, false}
use mathlib.Core.List.{List, [], ◌∷◌, ◌++◌, append_assoc, append-nil}
use lib.Dec.{eqb}
use lib.ListN.{replicate}
use Rattle.scope.specs.Bytes.{pick}
use Rattle.scope.specs.Keeper.{Answer, refusal_of, value_of}
use Rattle.scope.specs.Refusals.{Force}
use Rattle.scope.specs.History.{call, Writes, Transactions, entry_stored, writes_of, all_stored, if_done, tell, story}

pub record FirstFew (t t' : Transactions) : Type 0 where
  pub ws : List Writes
  pub stored≡ : t'.stored ≡ t.stored ++ ws
  pub rest≡ : ws ++ writes_of t'.made ≡ writes_of t.made
  pub begun≡ : t'.begun ≡ t.begun

few-none : (t : Transactions) → FirstFew t t
few-none t = record { ws = []; stored≡ = sym (append-nil t.stored); rest≡ = refl; begun≡ = refl }

few_then : (t u v : Transactions) → FirstFew t u → FirstFew u v → FirstFew t v
few_then t u v a b =
    record {
      ws = a.ws ++ b.ws;
      stored≡ = b.stored≡ ∙ ap (λ x. x ++ b.ws) a.stored≡ ∙ append_assoc t.stored a.ws b.ws;
      rest≡ = append_assoc a.ws b.ws (writes_of v.made) ∙ ap (λ x. a.ws ++ x) b.rest≡ ∙ a.rest≡;
      begun≡ = b.begun≡ ∙ a.begun≡;
    }

few-stored : (n : ℕ) (t : Transactions) → FirstFew t (entry_stored n t.stored t.made t.begun)
few-stored n t = go t.made
  where
    at : (x : ℕ × Writes) (xs : List (ℕ × Writes)) (b : Bool)
        → FirstFew (record { stored = t.stored; made = x ∷ xs; begun = t.begun })
        (pick b (record { stored = t.stored ++ (x.1 ∷ []); made = xs; begun = t.begun }) (record { stored = t.stored; made = x ∷ xs; begun = t.begun }))
    at x xs true = record { ws = x.1 ∷ []; stored≡ = refl; rest≡ = refl; begun≡ = refl }
    at x xs false = few-none _

    go : (xs : List (ℕ × Writes)) → FirstFew (record { stored = t.stored; made = xs; begun = t.begun }) (entry_stored n t.stored xs t.begun)
    go [] = few-none _
    go (x ∷ xs) = at x xs (eqb x.0 n)

few_force : (r : Answer) (t : Transactions) → FirstFew t (tell (call Force) r t)
few_force r t = go (refusal_of r)
  where
    go : (n : ℕ) → FirstFew t (if_done n (entry_stored (value_of r) t.stored t.made t.begun) t)
    go zero = few-stored (value_of r) t
    go (suc n) = few-none t

pub few_forces : (j : ℕ) (rs : List Answer) (t : Transactions) → FirstFew t (story (replicate j (call Force)) rs t)
few_forces zero rs t = few-none t
few_forces (suc j) [] t = few-none t
few_forces (suc j) (r ∷ rs) t = few_then t (tell (call Force) r t) _ (few_force r t) (few_forces j rs (tell (call Force) r t))

-- where none is left, all are stored
pub few_all : (t t' : Transactions) → FirstFew t t' → t'.made ≡ [] → t' ≡ all_stored t
few_all t t' f e =
    let ws≡ : f.ws ≡ writes_of t.made = sym (append-nil f.ws) ∙ sym (ap (λ x. f.ws ++ writes_of x) e) ∙ f.rest≡ in
    λ i. record { stored = (f.stored≡ ∙ ap (λ x. t.stored ++ x) ws≡) i; made = e i; begun = f.begun≡ i }
