-- What a step of the walk through a merged enumeration does, on bytes: the base's b, the extension's x,
-- the names in the text t.
use Rattle.std.specs.Prelude.{Bool, true, false, cond, ◌||◌, List, [], ◌∷◌, ℕ, ◌+◌, length}
use Rattle.std.specs.Prelude.{Option, Some, None, is_some, option_and_then}
use Rattle.rules.specs.Book.{Record, bit, bytes}
use Rattle.ground.specs.declared.Name as code
use Rattle.book.specs.Forms.{name_form}
use Rattle.book.specs.Sizes.{element_size}
use Rattle.enumerations.specs.Lists.{element_at, past_inner, inner_at, list_of, final_of, written, find_of}
use Rattle.enumerations.specs.declared.Inner.{Inner}
use Rattle.enumerations.specs.declared.Size.{Size}
use Rattle.merging.specs.declared.Emit.{Emit}
use Rattle.merging.specs.declared.Emit.TheVariants.{Quiet, Close, Element, Opening, Barred}
use Rattle.merging.specs.declared.Turn.TheVariants.{Go, Enter, Leave}
use Rattle.merging.specs.declared.Position.{Position}
use Rattle.merging.specs.declared.Position.TheVariants.{Copying, Adding}
use Rattle.merging.specs.declared.Move.{Move}

-- ---- what a step writes
abbrev pub element_record : code.Name → Record
element_record n = name_form 14 n.offset n.len

abbrev pub emitted : Emit → List Record
emitted Quiet = []
emitted Close = (15 ∷ []) ∷ []
emitted (Element n) = element_record n ∷ []
emitted (Opening n f) = element_record n ∷ (13 ∷ bit f 1 ∷ []) ∷ []
emitted Barred = []

abbrev pub goes : Emit → Bool
goes Quiet = true
goes Close = true
goes (Element n) = true
goes (Opening n f) = true
goes Barred = false

abbrev pub size_with : Size → List Record → Size
size_with s l = record { bytes = s.bytes + length (bytes l); records = s.records + length l }

-- ---- what a step does
abbrev pub element_move : code.Name → Bool → Bool → Position → Position → Move
element_move n there f next child =
    cond there (record { emit = Opening n f; turn = Enter next child }) (record { emit = Element n; turn = Go next })

abbrev pub shared_move : Option Inner → Option Inner → code.Name → Position → Move
shared_move i j n next =
    element_move n (is_some i || is_some j) (final_of i || final_of j) next (Copying i (list_of i) (list_of j))

abbrev pub added_move : Option Inner → code.Name → Position → Move
added_move i n next = element_move n (is_some i) (final_of i) next (Adding None (list_of i))

-- the next element of the base, with what the extension has of it; behind the last one, the extension's are next
abbrev pub copy_by : List ℕ → List ℕ → List ℕ → Option Inner → Option ℕ → Option ℕ → Move
copy_by t b x i own None = record { emit = Quiet; turn = Go (Adding i own) }
copy_by t b x i own (Some p) =
    let n = written b p in
    shared_move (inner_at b (p + element_size)) (option_and_then (inner_at x) (find_of t x own n)) n
    (Copying i (Some (past_inner b (p + element_size))) own)

-- the next element of the extension, unless the base has it; behind the last one, the list is closed
abbrev pub add_by : List ℕ → List ℕ → List ℕ → Option Inner → Option ℕ → Move
add_by t b x i None = record { emit = Close; turn = Leave }
add_by t b x i (Some p) =
    let n = written x p in
    let next : Position = Adding i (Some (past_inner x (p + element_size))) in
    cond (is_some (find_of t b (list_of i) n)) (record { emit = Quiet; turn = Go next })
    (cond (final_of i) (record { emit = Barred; turn = Go next }) (added_move (inner_at x (p + element_size)) n next))

unfoldable pub look_move : List ℕ → List ℕ → List ℕ → Position → Move
look_move t b x (Copying i at own) = copy_by t b x i own (element_at b at)
look_move t b x (Adding i at) = add_by t b x i (element_at x at)
