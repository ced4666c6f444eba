-- The five lines, one after the other, and the room that they take.
use Prim.Native.Nat.{ℕ, ◌/◌, ◌%◌, ◌≤◌}
use mathlib.Core.Path.{◌≡◌}
use mathlib.Core.Bool.{Bool, true, false}
use mathlib.Core.List.{List, [], ◌∷◌, ◌++◌, append_assoc}
use native.Mathlib.Omega.{arith}
use borrow.Author.Tests.{eq-eqb, ne_eqb}
use lib.Dec.{eqb}
use lib.ListN.{length, length-append}
use Rattle.std.specs.Fmt.{decimal}
use Rattle.scope.specs.Bytes.{pick}
use Rattle.text.proofs.Writing.{length_decimal_32, length_line_32}
use Rattle.reasons.specs.declared.Reason.{Reason}
use Rattle.reasons.specs.declared.Reason.TheVariants.{Table, Written, Restored}
use Rattle.why_text.specs.Why.{value_key, empty_end, ended, value_line, reason_line}

-- the value

module _ (v : ℕ) where
  abbrev part : ℕ
  part = v % 4294967296

  abbrev major : ℕ
  major = v / 4294967296 % 65536

  abbrev minor : ℕ
  minor = v / 281474976710656 % 65536

  pub value_empty : v ≡ 0 → value_line v ≡ value_key ++ empty_end
  unfolding value_line
  value_empty e = simp (eq-eqb v 0 e)

  pub value_full : (v ≡ 0 → ⊥) → value_line v ≡ value_key ++ ended part 58 ++ ended major 46 ++ ended minor 10
  unfolding value_line
  value_full n = simp (ne_eqb v 0 n)

  pub length_value : length (value_line v) ≤ 39
  unfolding value_line
  length_value = go (eqb v 0)
    where
      go : (b : Bool) → length (pick b (value_key ++ empty_end) (value_key ++ ended part 58 ++ ended major 46 ++ ended minor 10)) ≤ 39
      go true = omega arith
      go false =
          let i = length_decimal_32 part (omega arith) in
          let j = length_decimal_32 major (omega arith) in
          let k = length_decimal_32 minor (omega arith) in
          simp length-append (omega arith)

-- the key and three numbers, each with the byte after it, written one after the other
pub value_written : (v : ℕ) (t : List ℕ) {t₁ t₂ t₃ t₄ : List ℕ} → (v ≡ 0 → ⊥) → t₁ ≡ t ++ value_key → t₂ ≡ t₁ ++ decimal (part v) ++ 58 ∷ [] → t₃ ≡ t₂ ++ decimal (major v) ++ 46 ∷ []
    → t₄ ≡ t₃ ++ decimal (minor v) ++ 10 ∷ [] → t₄ ≡ t ++ value_line v
value_written v t n p q r s = rw (s, r, q, p, value_full v n) (simp append_assoc)

pub ruleset value_lines = (length-append, append_assoc, length_decimal_32, value_empty, value_full)

-- the reason

pub length_reason : (r : Reason) → length (reason_line r) ≤ 16
length_reason Table = omega arith
length_reason Written = omega arith
length_reason Restored = omega arith

pub ruleset five = (length-append, append_assoc, length_line_32, length_value, length_reason)
