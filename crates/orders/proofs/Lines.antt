-- A line's first byte and a kind's words, as the definitions test them.
use Rattle.std.proofs.Common.{◌≡◌, ℕ, true, ◌&&◌, List, [], ◌∷◌, eqb, get_or, refl}
use Rattle.std.proofs.Common.{None}
use Rattle.std.proofs.Common.{arith}
use Rattle.std.proofs.lemmas.Bool.Decides.{nat_tests}
use Rattle.std.specs.List.{starts_with}
use Rattle.scope.specs.Bytes.{pick}
use Rattle.words.specs.declared.Span.{Span}
use Rattle.orders.specs.declared.Kind.{Kind}
use Rattle.orders.specs.declared.Kind.TheVariants as kind
use Rattle.orders.specs.Orders.{arity_of, kind_order, words_order}

same : (x : ℕ) → (eqb 35 x && true) ≡ eqb x 35
same x = grind (arith, nat_tests)

pub starts_with-one : (s : List ℕ) → starts_with eqb s (35 ∷ []) ≡ eqb (get_or s 0 0) 35
starts_with-one [] = refl
starts_with-one (x ∷ xs) = same x

-- a kind but format
pub words_order-other : (s : List ℕ) (k : Kind) (n : ℕ) (a b c : Span) → (k ≡ kind.Format → ⊥)
    → words_order s k n a b c ≡ pick (eqb n (arity_of k)) (kind_order s k a b c) None
unfolding words_order
words_order-other s kind.Format n a b c h = absurd (h refl)
words_order-other s k n a b c h = refl
