-- What a line means: which order, with which numbers, or what is wrong with it.
use Rattle.std.specs.Prelude.{ℕ, ◌+◌, ◌*◌, Bool, true, false, List, Option, None, Some, Result, Ok, Err, eqb, leb, get_or}
use Rattle.std.specs.Option.{option_map, ok_or}
use Rattle.scope.specs.Bytes.{pick}
use Rattle.words.specs.declared.Span.{Span}
use Rattle.words.specs.Words.{word_number, word_release, word_after, word_key}
use Rattle.console.specs.declared.Call.TheVariants as call
use Rattle.orders.specs.declared.Kind.{Kind}
use Rattle.orders.specs.declared.Kind.TheVariants as kind
use Rattle.orders.specs.declared.Order.{Order}
use Rattle.orders.specs.declared.Order.TheVariants as order
use Rattle.orders.specs.declared.Wrong.{Wrong}
use Rattle.orders.specs.declared.Wrong.TheVariants as wrong

-- A WRITE: its cell, and the value of its part and its release, as a cell holds them
abbrev pub write_order : Option ℕ → Option ℕ → Option ℕ → Option Order
write_order None part release = None
write_order (Some cell) None release = None
write_order (Some cell) (Some part) None = None
write_order (Some cell) (Some part) (Some release) = Some (order.Call (call.Write cell (part + 4294967296 * release)))

-- the calls by their names, as words' keys: begin, write, abort, commit, read, force, cut, back, step, start
unfoldable pub call_kind : ℕ → Option Kind
call_kind k =
    pick (eqb k 422608071022) (Some kind.Begin)
    (pick (eqb k 513020621925) (Some kind.Write)
    (pick (eqb k 418263298676) (Some kind.Abort)
    (pick (eqb k 109330228406644) (Some kind.Commit)
    (pick (eqb k 1919246692) (Some kind.Read)
    (pick (eqb k 439956431717) (Some kind.Force)
    (pick (eqb k 6518132) (Some kind.Cut)
    (pick (eqb k 1650549611) (Some kind.Back) (pick (eqb k 1937007984) (Some kind.Step) (pick (eqb k 495873782388) (Some kind.Start) None)))))))))

-- open, new, recover, store, format, look, list, help, quit, or a call
unfoldable pub kind_of : ℕ → Option Kind
kind_of k =
    pick (eqb k 1869636974) (Some kind.Open)
    (pick (eqb k 7234935) (Some kind.New)
    (pick (eqb k 32199625091212658) (Some kind.Recover)
    (pick (eqb k 495874699877) (Some kind.Store)
    (pick (eqb k 112628847174004) (Some kind.Format)
    (pick (eqb k 1819242347) (Some kind.Look)
    (pick (eqb k 1818850164) (Some kind.List) (pick (eqb k 1751477360) (Some kind.Help) (pick (eqb k 1903520116) (Some kind.Quit) (call_kind k)))))))))

-- how many words follow the first: write has three, an order with a number or a name has one
abbrev pub arity_of : Kind → ℕ
arity_of kind.Write = 3
arity_of kind.New = 1
arity_of kind.Read = 1
arity_of kind.Back = 1
arity_of kind.Cut = 1
arity_of kind.Look = 1
arity_of kind.Open = 1
arity_of _ = 0

-- how many words a line has after its first, as far as four
abbrev pub no_word : Span → Bool
no_word w = leb w.to w.from

abbrev pub given_of : Span → Span → Span → Span → ℕ
given_of a b c d = pick (no_word a) 0 (pick (no_word b) 1 (pick (no_word c) 2 (pick (no_word d) 3 4)))

-- A FORMAT: two sizes, and whether a table may be erased
abbrev pub sized_order : Bool → Option ℕ → Option ℕ → Option Order
sized_order erase None rows = None
sized_order erase (Some cells) None = None
sized_order erase (Some cells) (Some rows) = Some (order.Format cells rows erase)

-- a table may be erased where a third word says `erase`
unfoldable pub sizes_order : List ℕ → ℕ → Span → Span → Span → Option Order
sizes_order s count a b c =
    let x = word_number s a.from a.to in let y = word_number s b.from b.to in
    pick (eqb count 2) (sized_order false x y)
    (pick (eqb count 3) (pick (eqb (word_key s c) 435710686053) (sized_order true x y) None) None)

-- the order of a kind with as many words as it has: it stands alone, or with a file's name, or with numbers
unfoldable pub kind_order : List ℕ → Kind → Span → Span → Span → Option Order
kind_order s kind.Begin a b c = Some (order.Call call.Begin)
kind_order s kind.Write a b c = write_order (word_number s a.from a.to) (word_number s b.from b.to) (word_release s c.from c.to)
kind_order s kind.Abort a b c = Some (order.Call call.Abort)
kind_order s kind.Commit a b c = Some (order.Call call.Commit)
kind_order s kind.Read a b c = option_map (λ n. order.Call (call.Read n)) (word_number s a.from a.to)
kind_order s kind.Force a b c = Some (order.Call call.Force)
kind_order s kind.Cut a b c = option_map (λ n. order.Call (call.Cut n)) (word_number s a.from a.to)
kind_order s kind.Back a b c = option_map (λ n. order.Call (call.WriteBack n)) (word_number s a.from a.to)
kind_order s kind.Step a b c = Some (order.Call call.Step)
kind_order s kind.Start a b c = Some (order.Call call.Start)
kind_order s kind.Open a b c = Some (order.Open a)
kind_order s kind.New a b c = Some (order.New a)
kind_order s kind.Recover a b c = Some order.Recover
kind_order s kind.Store a b c = Some order.Store
kind_order s kind.Look a b c = option_map (λ n. order.Look n) (word_number s a.from a.to)
kind_order s kind.List a b c = Some order.List
kind_order s kind.Help a b c = Some order.Help
kind_order s kind.Quit a b c = Some order.Quit
kind_order s kind.Format a b c = None

-- THE ORDER of a kind with the words that follow it, or none where they are not what it wants
unfoldable pub words_order : List ℕ → Kind → ℕ → Span → Span → Span → Option Order
words_order s kind.Format count a b c = sizes_order s count a b c
words_order s k count a b c = pick (eqb count (arity_of k)) (kind_order s k a b c) None

-- THE ORDER of a line by its words
abbrev pub line_order : List ℕ → Option Kind → Span → Span → Span → Span → Result Order Wrong
line_order s None a b c d = Err wrong.Word
line_order s (Some k) a b c d = ok_or (words_order s k (given_of a b c d) a b c) (wrong.Words k)

unfoldable pub worded_order : List ℕ → Span → Result Order Wrong
worded_order s first =
    let a = word_after s first.to in let b = word_after s a.to in let c = word_after s b.to in
    line_order s (kind_of (word_key s first)) a b c (word_after s c.to)

-- THE ORDER of a line: nothing where it is empty or begins with #
unfoldable pub order_of : List ℕ → Result Order Wrong
order_of s =
    let first = word_after s 0 in
    pick (no_word first) (Ok order.Nothing) (pick (eqb (get_or s 0 0) 35) (Ok order.Nothing) (worded_order s first))

-- whether an order is about a file that is open
abbrev pub about_file : Order → Bool
about_file (order.Call c) = true
about_file order.Recover = true
about_file order.Store = true
about_file (order.Format cells rows erase) = true
about_file (order.Look n) = true
about_file order.List = true
about_file _ = false
