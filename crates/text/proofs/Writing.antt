-- The room that each text takes, and the cells of a table, one more.
use Prim.Native.Nat.{ℕ, zero, suc, ◌+◌, ◌*◌, ◌/◌, ◌%◌, ◌≤◌, ◌<◌}
use mathlib.Core.Path.{◌≡◌, refl, sym, ap, ◌∙◌}
use mathlib.Core.Bool.{Bool, true, false}
use mathlib.Core.List.{List, [], ◌∷◌, ◌++◌, append-nil, append_assoc}
use native.Mathlib.Omega.{arith}
use native.Mathlib.Numerals.{add-one}
use borrow.Author.Tests.{eq-eqb, ne_eqb}
use lib.Dec.{eqb}
use lib.ListN.{length, get_or, take, drop, length-append}
use lib.Seq.{take-suc, drop-drop, take_all, length-take-le}
use Rattle.std.specs.Fmt.{decimal}
use Rattle.std.proofs.lemmas.Fmt.{length-decimal-le}
use Rattle.scope.specs.Bytes.{pick, number_of, number_at}
use Rattle.scope.specs.Keeper.{cell_at, cells_of}
use Rattle.scope.specs.Recovery.{table_of}
use Rattle.scope.proofs.TableCells.{length_table}
use Rattle.text.specs.Text.{line, release_line, cell_text, cells_text, cell_key, part_key}

-- room

pub length_decimal_32 : (n : ℕ) → n < 4294967296 → length (decimal n) ≤ 10
length_decimal_32 n h = length-decimal-le 10 n (omega arith) (omega arith) (omega arith)

pub length_decimal_64 : (n : ℕ) → n < 18446744073709551616 → length (decimal n) ≤ 20
length_decimal_64 n h = length-decimal-le 20 n (omega arith) (omega arith) (omega arith)

pub length_line_32 : (key : List ℕ) (n : ℕ) → n < 4294967296 → length (line key n) ≤ length key + 11
unfolding line
length_line_32 key n h = omega (arith, length_decimal_32 n h, length-append (key ++ decimal n) (10 ∷ []), length-append key (decimal n))

pub length_line_64 : (key : List ℕ) (n : ℕ) → n < 18446744073709551616 → length (line key n) ≤ length key + 21
unfolding line
length_line_64 key n h = omega (arith, length_decimal_64 n h, length-append (key ++ decimal n) (10 ∷ []), length-append key (decimal n))

pub length_release : (major minor : ℕ) → major < 4294967296 → minor < 4294967296 → length (release_line major minor) ≤ 30
unfolding release_line
length_release major minor h k = simp length-append (omega (arith, length_decimal_32 major h, length_decimal_32 minor k))

pub length_cell : (i v : ℕ) → i < 4294967296 → length (cell_text i v) ≤ 62
unfolding cell_text
length_cell i v h = go (eqb v 0)
  where
    go : (b : Bool) → length (pick b [] (line cell_key i ++ line part_key (v % 4294967296) ++ release_line (v / 4294967296 % 65536) (v / 281474976710656 % 65536))) ≤ 62
    go true = omega arith
    go false =
        simp length-append
        (omega (arith, length_line_32 cell_key i h, length_line_32 part_key (v % 4294967296) (omega arith), length_release (v / 4294967296 % 65536) (v / 281474976710656 % 65536) (omega arith) (omega arith)))

pub length_cells : (i : ℕ) (vs : List ℕ) → i + length vs ≤ 4294967296 → length (cells_text i vs) ≤ 62 * length vs
unfolding cells_text
length_cells i [] h = omega arith
length_cells i (v ∷ vs) h = omega (arith, length-append (cell_text i v) (cells_text (i + 1) vs), length_cell i v (omega arith), length_cells (i + 1) vs (omega arith))

-- the room that a method asks holds what it writes
pub ruleset room = (length-append, length_decimal_32, length_line_32, length_release, length_cell)

-- an empty cell has no text, and another's is its lines
pub cell_empty : (i v : ℕ) → v ≡ 0 → cell_text i v ≡ []
unfolding cell_text
cell_empty i v e = simp (eq-eqb v 0 e)

pub cell_full : (i v : ℕ) → (v ≡ 0 → ⊥)
    → cell_text i v ≡ line cell_key i ++ line part_key (v % 4294967296) ++ release_line (v / 4294967296 % 65536) (v / 281474976710656 % 65536)
unfolding cell_text
cell_full i v n = simp (ne_eqb v 0 n)

pub ruleset cell_lines = (room, append_assoc, append-nil, cell_empty, cell_full)

-- the cells of a table, one more

cells-append : (i : ℕ) (vs ws : List ℕ) → cells_text i (vs ++ ws) ≡ cells_text i vs ++ cells_text (i + length vs) ws
unfolding cells_text
cells-append i [] ws = let z : i + 0 ≡ i = omega arith in sym (ap (λ j. cells_text j ws) z)
cells-append i (v ∷ vs) ws =
    let z : i + 1 + length vs ≡ i + suc (length vs) = omega arith in
    ap (λ x. cell_text i v ++ x) (cells-append (i + 1) vs ws ∙ ap (λ j. cells_text (i + 1) vs ++ cells_text j ws) z) ∙ sym (append_assoc (cell_text i v) (cells_text (i + 1) vs) _)

cells-one : (i v : ℕ) → cells_text i (v ∷ []) ≡ cell_text i v
unfolding cells_text
cells-one i v = append-nil (cell_text i v)

pub cells-next : (i : ℕ) (vs : List ℕ) → i < length vs → cells_text 0 (take i vs) ++ cell_text i (get_or vs i 0) ≡ cells_text 0 (take (i + 1) vs)
cells-next i vs h =
    let z : 0 + length (take i vs) ≡ i = omega (arith, length-take-le i vs (omega arith)) in
    sym (ap (λ j. cells_text 0 (take j vs)) (add-one i) ∙ ap (cells_text 0) (take-suc vs i 0 h) ∙ cells-append 0 (take i vs) (get_or vs i 0 ∷ [])
    ∙ ap (λ x. cells_text 0 (take i vs) ++ x) (cells-one _ (get_or vs i 0) ∙ ap (λ j. cell_text j (get_or vs i 0)) z))

cell-value : (n i : ℕ) (m : List ℕ) → i < n → get_or (cells_of n m) i 0 ≡ number_of (take 8 (drop (8 * i) m))
unfolding cells_of
cell-value zero i m h = absurd (omega arith)
cell-value (suc n) zero m h = refl
cell-value (suc n) (suc i) m h =
    let e : 8 + 8 * i ≡ 8 * suc i = omega arith in
    cell-value n i (drop 8 m) (omega arith) ∙ ap (λ l. number_of (take 8 l)) (drop-drop (8 * i) 8 m ∙ ap (λ j. drop j m) e)

table_value : (n slots : ℕ) (m : List ℕ) (i j v : ℕ) → j ≡ cell_at slots i → v ≡ number_at 8 j m → i < n → get_or (table_of n slots m) i 0 ≡ v
unfolding table_of number_at cell_at
table_value n slots m i j v b e h =
    cell-value n i (drop (32 + 32 * slots) m) h
    ∙ ap (λ l. number_of (take 8 l)) (drop-drop (8 * i) (32 + 32 * slots) m ∙ ap (λ k. drop k m) (sym b))
    ∙ sym e

-- a loop over the medium's cells: no cell has no text, a turn adds one, and all are the table
module _ (m : List ℕ) (n slots : ℕ) where
  abbrev T : List ℕ
  T = table_of n slots m

  pub cells_none : (t : List ℕ) → t ≡ t ++ cells_text 0 (take 0 T)
  unfolding cells_text
  cells_none t = sym (append-nil t)

  pub cells_again : (t : List ℕ) {t₁ t₂ : List ℕ} (i j v : ℕ) → j ≡ cell_at slots i → v ≡ number_at 8 j m → i < n
      → t₁ ≡ t ++ cells_text 0 (take i T) → t₂ ≡ t₁ ++ cell_text i v → t₂ ≡ t ++ cells_text 0 (take (i + 1) T)
  cells_again t i j v b e h p q =
      let l = length_table n slots m in
      q ∙ ap (λ x. x ++ cell_text i v) p ∙ append_assoc t (cells_text 0 (take i T)) (cell_text i v)
      ∙ ap (λ x. t ++ x)
      (ap (λ w. cells_text 0 (take i T) ++ cell_text i w) (sym (table_value n slots m i j v b e h)) ∙ cells-next i T (omega arith))

  -- after i cells there is room for one more
  pub cells_room : (t : List ℕ) {t₁ : List ℕ} (i : ℕ) → n ≤ 4294967296 → i < n → t₁ ≡ t ++ cells_text 0 (take i T) → length t₁ + 62 ≤ length t + 62 * n
  cells_room t {t₁} i k h p =
      let l = length_table n slots m in
      let z = length-take-le i T (omega arith) in
      omega (arith, ap length p, length-append t (cells_text 0 (take i T)), length_cells 0 (take i T) (omega arith))

  pub cells_all : (t : List ℕ) {t₁ : List ℕ} (i : ℕ) → i ≡ n → t₁ ≡ t ++ cells_text 0 (take i T) → t₁ ≡ t ++ cells_text 0 T
  cells_all t i e p = let l = length_table n slots m in p ∙ ap (λ x. t ++ cells_text 0 x) (take_all i T (omega arith))
