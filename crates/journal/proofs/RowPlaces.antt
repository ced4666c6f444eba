-- The row of an entry: a row is four words, and a part of 32 bytes is where its place says.
use Prim.Native.Nat.{ℕ, suc, ◌+◌, ◌-◌, ◌*◌, ◌%◌, ◌≤◌, ◌<◌}
use mathlib.Core.Path.{◌≡◌, sym, ap, ◌∙◌}
use mathlib.Core.List.{List, [], ◌∷◌, ◌++◌}
use mathlib.Core.Option.{Option}
use native.Mathlib.Nat.{suc-mod, mod-lt, mod_self, mod-eq_of_lt}
use native.Mathlib.Omega.{arith}
use lib.ListN.{length, get_or, take, drop, length-drop, length-append}
use lib.Seq.{take-take, take-add, drop-drop, length-take-le}
use Rattle.scope.specs.Bytes.{bytes_of, number_at, number_of, put}
use Rattle.scope.specs.Row.{Entry, read_row, Reason, wrong_entry}
use Rattle.scope.specs.Keeper.{row_at}
use Rattle.scope.specs.Recovery.{rows_of}
use Rattle.scope.proofs.Bytes.{AllBytes, bytes_take, bytes_drop, bytes_of_number_of, length_bytes_of}
use Rattle.number.proofs.Numbers.{put_next}
use Rattle.journal.specs.Entries.{entry_in, wrong_in}

pub from_part : (rows : List ℕ) (cells n at : ℕ) (e : Option Entry) (x : Option Reason)
    → (e ≡ read_row cells n (take (at + 32 - at) (drop at rows))) × (x ≡ wrong_entry cells n (take (at + 32 - at) (drop at rows)))
    → (e ≡ read_row cells n (take 32 (drop at rows))) × (x ≡ wrong_entry cells n (take 32 (drop at rows)))
from_part rows cells n at e x q = let k : at + 32 - at ≡ 32 = omega arith in (q.0 ∙ rw k, q.1 ∙ rw k)

pub read_part : (rows : List ℕ) (base slots cells n row : ℕ) (e : Option Entry) (x : Option Reason) → row ≡ row_at slots n
    → (e ≡ read_row cells n (take 32 (drop (base + row) rows))) × (x ≡ wrong_entry cells n (take 32 (drop (base + row) rows)))
    → (e ≡ entry_in rows base slots cells n) × (x ≡ wrong_in rows base slots cells n)
unfolding entry_in wrong_in
read_part rows base slots cells n row e x p q = (q.0 ∙ rw p, q.1 ∙ rw p)

-- the row of an entry on a medium, by its place

module _ (m : List ℕ) (slots n at : ℕ) (p : at ≡ 32 + row_at slots n) where
  pub number-from : (x : ℕ) → x ≡ number_at 4 at m → x ≡ number_at 4 0 (rows_of slots m n)
  unfolding number_at
  number-from x q = q ∙ rw p (ap number_of (sym (take-take 4 32 (drop (32 + row_at slots n) m) (omega arith))))

  pub read_from : (cells : ℕ) (e : Option Entry) → e ≡ read_row cells n (take 32 (drop at m)) → e ≡ entry_in m 32 slots cells n
  unfolding entry_in
  read_from cells e q = q ∙ rw p

  pub wrong_from : (cells : ℕ) (x : Option Reason) → x ≡ wrong_entry cells n (take 32 (drop at m)) → x ≡ wrong_entry cells n (rows_of slots m n)
  wrong_from cells x q = q ∙ rw p

-- rows one after the other

module _ (slots : ℕ) where
  pub row_first : (h r : ℕ) → 0 < slots → r ≡ h % slots → (32 + 32 * r ≡ 32 + row_at slots (h + 1)) × (32 + 32 * r ≤ 32 * slots)
  unfolding row_at
  row_first h r s e = let k : h + 1 - 1 ≡ h = omega arith in (rw (k, e), omega (arith, mod-lt h s))

  module _ (at n : ℕ) (i : 0 < n) (e : at ≡ 32 + row_at slots n) where
    after : (n + 1 - 1) % slots ≡ suc ((n - 1) % slots) % slots
    after = let k : n + 1 - 1 ≡ suc (n - 1) = omega arith in rw k (suc-mod (n - 1) slots)

    pub row_turns : at ≡ 32 * slots → (32 ≡ 32 + row_at slots (n + 1)) × (32 ≤ 32 * slots)
    unfolding row_at
    row_turns q = let k : suc ((n - 1) % slots) ≡ slots = omega arith in (rw (after, k, mod_self), omega arith)

    pub row_follows : at ≤ 32 * slots → (at ≡ 32 * slots → ⊥) → (at + 32 ≡ 32 + row_at slots (n + 1)) × (at + 32 ≤ 32 * slots)
    unfolding row_at
    row_follows h q =
        let k : suc ((n - 1) % slots) < slots = omega arith in
        (rw (after, mod-eq_of_lt k) (omega arith), omega arith)

pub appended : (w w' : List ℕ) (slots n row : ℕ) (v : List ℕ) → row ≡ row_at slots n → w' ≡ put w row v → w' ≡ put w (row_at slots n) v
appended w w' slots n row v p q = q ∙ rw p

-- four words

all_bytes : (w : List ℕ) → ((i : ℕ) → get_or w i 0 < 256) → AllBytes w
all_bytes [] h = tt
all_bytes (b ∷ w) h = (h 0, all_bytes w (λ i. h (suc i)))

module _ (w : List ℕ) (at : ℕ) (fits : at + 32 ≤ length w) (h : (i : ℕ) → get_or w i 0 < 256) where
  word : (j : ℕ) → j + 8 ≤ length w → bytes_of 8 (number_at 8 j w) ≡ take 8 (drop j w)
  unfolding number_at
  word j k =
      let v = take 8 (drop j w) in
      let e : length v ≡ 8 = length-take-le 8 (drop j w) (simp length-drop (omega arith)) in
      ap (λ n. bytes_of n (number_of v)) (sym e) ∙ bytes_of_number_of v (bytes_take 8 (drop j w) (bytes_drop j w (all_bytes w h)))

  words : take 32 (drop at w) ≡ bytes_of 8 (number_at 8 at w) ++ bytes_of 8 (number_at 8 (at + 8) w) ++ bytes_of 8 (number_at 8 (at + 16) w) ++ bytes_of 8 (number_at 8 (at + 24) w)
  words =
      take-add 24 8 (drop at w) ∙ ap (λ x. x ++ take 8 (drop 24 (drop at w))) (take-add 16 8 (drop at w) ∙ ap (λ x. x ++ take 8 (drop 16 (drop at w))) (take-add 8 8 (drop at w)))
      ∙ rw (drop-drop 8 at w, drop-drop 16 at w, drop-drop 24 at w)
      (sym (rw (word at (omega arith), word (at + 8) (omega arith), word (at + 16) (omega arith), word (at + 24) (omega arith))))

  pub four_words : (m m₁ m₂ m₃ m₄ : List ℕ) (slots n : ℕ) (a b c d : ℕ) → at ≡ row_at slots n → 32 + at + 32 ≤ length m → a ≡ number_at 8 at w → b ≡ number_at 8 (at + 8) w
      → c ≡ number_at 8 (at + 16) w → d ≡ number_at 8 (at + 24) w → m₁ ≡ put m (at + 32) (bytes_of 8 a) → m₂ ≡ put m₁ (at + 40) (bytes_of 8 b)
      → m₃ ≡ put m₂ (at + 48) (bytes_of 8 c) → m₄ ≡ put m₃ (at + 56) (bytes_of 8 d) → m₄ ≡ put m (32 + row_at slots n) (take 32 (drop (row_at slots n) w))
  four_words m m₁ m₂ m₃ m₄ slots n a b c d r k ea eb ec ed p₁ p₂ p₃ p₄ =
      let q₂ = p₂ ∙ put_next m m₁ (at + 32) (at + 40) (bytes_of 8 a) (bytes_of 8 b) p₁ (simp length_bytes_of (omega arith)) (simp length_bytes_of (omega arith)) in
      let q₃ = p₃ ∙ put_next m m₂ (at + 32) (at + 48) (bytes_of 8 a ++ bytes_of 8 b) (bytes_of 8 c) q₂ (simp (length-append, length_bytes_of) (omega arith)) (simp length_bytes_of (omega arith)) in
      let q₄ = p₄ ∙ put_next m m₃ (at + 32) (at + 56) (bytes_of 8 a ++ bytes_of 8 b ++ bytes_of 8 c) (bytes_of 8 d) q₃ (simp (length-append, length_bytes_of) (omega arith)) (simp length_bytes_of (omega arith)) in
      let e : at + 32 ≡ 32 + row_at slots n = omega arith in
      let v : bytes_of 8 a ++ bytes_of 8 b ++ bytes_of 8 c ++ bytes_of 8 d ≡ take 32 (drop (row_at slots n) w) =
      rw (ea, eb, ec, ed) (sym words ∙ ap (λ j. take 32 (drop j w)) r) in
      q₄ ∙ ap (λ j. put m j (bytes_of 8 a ++ bytes_of 8 b ++ bytes_of 8 c ++ bytes_of 8 d)) e ∙ ap (put m (32 + row_at slots n)) v
