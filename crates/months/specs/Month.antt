-- A month's end (ticket 13): "recovers each medium in its own memory and prints `stores` (files named), `refused` (of these), `cells` (non-empty, in the
-- rest) .. The first 64 releases met, by file and then by cell, have counts; cells of later ones go to others."
use Rattle.std.specs.Prelude.{ℕ, zero, suc, ◌+◌, ◌*◌, ◌/◌, ◌%◌, ◌-◌, List, [], ◌∷◌, ◌++◌, ltb, eqb, length, get_or, set, map, replicate}
use Rattle.scope.specs.Bytes.{pick}
use Rattle.scope.specs.Keeper.{Answer, done, refused, cell, head, clean, stored, part}
use Rattle.recovered.specs.Recovered.{started}
use Rattle.values.specs.Values.{values_of}
use Rattle.months.specs.declared.Month.{Month}
use Rattle.months.specs.declared.Met.{Met}
use Rattle.months.specs.Releases.{in_use}

-- one more, in 64 bits
unfoldable pub more : ℕ → ℕ
more x = pick (ltb x 18446744073709551615) (x + 1) x

-- a cell's release as one number, the major before the minor: 1.10 is above 1.9
unfoldable pub release_of : ℕ → ℕ
release_of v = 65536 * (v / 4294967296 % 65536) + v / 281474976710656 % 65536

-- where a release stands from place i on, of so many more; or where they end
unfoldable pub place_from : List ℕ → ℕ → ℕ → ℕ → ℕ
place_from releases r zero i = i
place_from releases r (suc left) i = pick (eqb (get_or releases i 0) r) i (place_from releases r left (i + 1))

unfoldable pub place : List ℕ → ℕ → ℕ → ℕ
place releases r met = place_from releases r met 0

-- the numbers, and 64 releases and counts side by side, of which `met` are in use
pub record Tally : Type 0 where
  pub stores : ℕ
  pub refused : ℕ
  pub cells : ℕ
  pub met : ℕ
  pub others : ℕ
  pub releases : List ℕ
  pub counts : List ℕ

-- 64 places, of which the first ones hold these
unfoldable pub places : List ℕ → List ℕ
places xs = xs ++ replicate (64 - length xs) 0

-- the releases that were met, and how many cells each has, side by side
abbrev pub releases_of : List Met → List ℕ
releases_of met = places (map (λ c. c.release) met)

abbrev pub counts_of : List Met → List ℕ
counts_of met = places (map (λ c. c.count) met)

unfoldable pub tally : Month → Tally
tally m =
    record {
      stores = m.stores;
      refused = m.refused;
      cells = m.cells;
      met = length (in_use m.met);
      others = m.others;
      releases = releases_of (in_use m.met);
      counts = counts_of (in_use m.met);
    }

-- before any file
unfoldable pub untallied : Tally
untallied = record { stores = 0; refused = 0; cells = 0; met = 0; others = 0; releases = replicate 64 0; counts = replicate 64 0 }

unfoldable pub met_after : ℕ → ℕ → ℕ
met_after i met = pick (ltb i met) met (i + 1)

-- a cell of a release whose place is i: counted there, or among the others where all 64 places are taken by others
unfoldable pub add_at : ℕ → ℕ → Tally → Tally
add_at i r t =
    pick (ltb i 64)
    (record {
      stores = t.stores;
      refused = t.refused;
      cells = more t.cells;
      met = met_after i t.met;
      others = t.others;
      releases = set t.releases i r;
      counts = set t.counts i (more (get_or t.counts i 0));
    })
    (record {
      stores = t.stores;
      refused = t.refused;
      cells = more t.cells;
      met = t.met;
      others = more t.others;
      releases = t.releases;
      counts = t.counts;
    })

-- a cell; an empty one has no release
unfoldable pub add_cell : ℕ → Tally → Tally
add_cell v t = pick (eqb v 0) t (add_at (place t.releases (release_of v) t.met) (release_of v) t)

-- the cells of a table, by rising number
unfoldable pub add_cells : List ℕ → Tally → Tally
add_cells [] t = t
add_cells (v ∷ vs) t = add_cells vs (add_cell v t)

-- one more file, refused or not
unfoldable pub add_store : ℕ → Tally → Tally
add_store out t =
    record {
      stores = more t.stores;
      refused = out;
      cells = t.cells;
      met = t.met;
      others = t.others;
      releases = t.releases;
      counts = t.counts;
    }

abbrev pub add_started : Answer → List ℕ → Tally → Tally
add_started (done v) values t = add_cells values (add_store t.refused t)
add_started (refused n) values t = add_store (more t.refused) t
add_started (cell c) values t = t
add_started head values t = t
add_started clean values t = t
add_started stored values t = t
add_started (part b) values t = t

-- A FILE'S BYTES: its recovered cells, or one more refused
unfoldable pub add_medium : List ℕ → Tally → Tally
add_medium m t = add_started (started m).answer (values_of m) t
