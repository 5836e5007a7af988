-- The walk through a merged enumeration, on trees: a frame for each open list, and what is still to be written.
use mathlib.Core.Path.{◌≡◌, refl, sym, ap, ◌∙◌}
use mathlib.Core.Bool.{Bool, true, false, cond, not, ◌&&◌, ◌||◌}
use mathlib.Core.Option.{some}
use mathlib.Core.List.{List, [], ◌∷◌, ◌++◌, append_assoc, append-nil}
use Prim.Native.Nat.{ℕ, zero, suc, ◌+◌, ◌*◌, ◌≤◌, ◌<◌}
use native.Mathlib.Nat.{le_trans, add-mul, suc-mul}
use native.Mathlib.Omega.{arith}
use Rattle.rules.specs.Bytes.{same}
use Rattle.rules.specs.Names.{Name}
use Rattle.rules.specs.Enumerations.{Enum, end, elem, final, at, inner, has, news, merge_from, merge, or_empty}
use Rattle.rules.specs.Book.{Record, name_record, open_record, inner_records, element_records}
use Rattle.rules.proofs.Tests.{never}
use Rattle.rules.proofs.MergeLaws.{final-merge}
use Rattle.merging.specs.Steps.{emitted, goes}
use Rattle.merging.specs.Walks.{Ran, wrote, barred, before}
use Rattle.enumerations.specs.Standing.{plain, part_of}
use Rattle.enumerations.proofs.DeepLaws.{merge-plain}
use Rattle.enumerations.proofs.WrittenLaws.{inner-records}
use Rattle.merging.specs.declared.Emit.{Emit}
use Rattle.merging.specs.declared.Emit.TheVariants.{Quiet, Close, Element, Opening, Barred}

-- `copy w r x`: of the base's list w the part r is still to be written, then what x has more. `add w y`: of
-- the part y what w lacks
pub data Frame : Type 0 where
  copy : Enum → Enum → Enum → Frame
  add : Enum → Enum → Frame

-- an element is written, with the opening of its list unless that is plain
abbrev pub heading : Name → Bool → Bool → Emit
heading n p f = cond p (Element (part_of n)) (Opening (part_of n) f)

abbrev pub emits : Frame → Emit
emits (copy w (end f) x) = Quiet
emits (copy w (elem n i r) x) =
    heading n (plain i && plain (inner n.bytes x)) (final i || final (inner n.bytes x))
emits (add w (end g)) = Close
emits (add w (elem m j r)) = cond (has m.bytes w) Quiet (cond (final w) Barred (heading m (plain j) (final j)))

-- the frames that stand in its place afterwards, the innermost first
abbrev pub leaves : Frame → List Frame
leaves (copy w (end f) x) = add w x ∷ []
leaves (copy w (elem n i r) x) =
    cond (plain i && plain (inner n.bytes x)) (copy w r x ∷ []) (copy i i (inner n.bytes x) ∷ copy w r x ∷ [])
leaves (add w (end g)) = []
leaves (add w (elem m j r)) =
    cond (has m.bytes w) (add w r ∷ []) (cond (plain j) (add w r ∷ []) (add (end false) j ∷ add w r ∷ []))

-- ---- what is still to be written
abbrev pub to_write : Frame → List Record
to_write (copy w r x) = element_records (merge_from r w x)
to_write (add w y) = element_records (news false w y)

abbrev pub all_to_write : List Frame → List Record
all_to_write [] = []
all_to_write (F ∷ Fs) = to_write F ++ all_to_write Fs

-- the flag of a list stands in its opening, not in its elements
news-flag : (f g : Bool) (w y : Enum) → element_records (news f w y) ≡ element_records (news g w y)
news-flag f g w (end h) = refl
news-flag f g w (elem m j r) = go (has m.bytes w) (news-flag f g w r)
  where
    go : (t : Bool) → element_records (news f w r) ≡ element_records (news g w r) →
        element_records (cond t (news f w r) (elem m j (news f w r)))
        ≡ element_records (cond t (news g w r) (elem m j (news g w r)))
    go true e = e
    go false e = rw e

news-nothing : (y : Enum) → news false (end false) y ≡ y
news-nothing (end g) = refl
news-nothing (elem m j r) = rw (news-nothing r)

-- ---- a step writes the first of what is still to be written
head-records : (n : Name) (e : Enum) (p f : Bool) (l : List Record) → plain e ≡ p → final e ≡ f →
    emitted (heading n p f) ++ (cond p l (element_records e ++ l))
    ≡ name_record 14 n ∷ (inner_records e (open_record e ∷ element_records e) ++ l)
head-records n e true f l h k = rw (inner-records e (open_record e ∷ element_records e), h)
head-records n e false f l h k = rw (inner-records e (open_record e ∷ element_records e), h, k)

write_two : (p : Bool) (F G : Frame)
    → all_to_write (cond p (G ∷ []) (F ∷ G ∷ [])) ≡ cond p (to_write G) (to_write F ++ to_write G)
write_two true F G = append-nil (to_write G)
write_two false F G = rw (append-nil (to_write G))

step-writes : (F : Frame) → goes (emits F) ≡ true → emitted (emits F) ++ all_to_write (leaves F) ≡ to_write F
step-writes (copy w (end f) x) g = append-nil (element_records (news false w x)) ∙ news-flag false f w x
step-writes (copy w (elem n i r) x) g =
    let j : Enum = inner n.bytes x in
    let p : Bool = plain i && plain j in
    ap (λ (l : List Record). emitted (heading n p (final i || final j)) ++ l) (write_two p (copy i i j) (copy w r x))
    ∙ head-records n (merge i j) p (final i || final j) (element_records (merge_from r w x))
    (merge-plain i j) (final-merge i i j)
step-writes (add w (end g)) h = refl
step-writes (add w (elem m j r)) h = go (has m.bytes w) (final w) h
  where
    go : (t u : Bool) → goes (cond t Quiet (cond u Barred (heading m (plain j) (final j)))) ≡ true →
        emitted (cond t Quiet (cond u Barred (heading m (plain j) (final j))))
        ++ all_to_write (cond t (add w r ∷ []) (cond (plain j) (add w r ∷ []) (add (end false) j ∷ add w r ∷ [])))
        ≡ element_records (cond t (news false w r) (elem m j (news false w r)))
    go true u h = append-nil (element_records (news false w r))
    go false true h = never h
    go false false h =
        ap (λ (l : List Record). emitted (heading m (plain j) (final j)) ++ l)
        (write_two (plain j) (add (end false) j) (add w r) ∙ rw news-nothing)
        ∙ head-records m j (plain j) (final j) (element_records (news false w r)) refl refl

write-append : (Fs Gs : List Frame) → all_to_write (Fs ++ Gs) ≡ all_to_write Fs ++ all_to_write Gs
write-append [] Gs = refl
write-append (F ∷ Fs) Gs = rw (write-append Fs Gs) (sym (append_assoc (to_write F) (all_to_write Fs) (all_to_write Gs)))

write_step : (F : Frame) (Gs : List Frame) → goes (emits F) ≡ true
    → emitted (emits F) ++ all_to_write (leaves F ++ Gs) ≡ all_to_write (F ∷ Gs)
write_step F Gs g =
    ap (λ (l : List Record). emitted (emits F) ++ l) (write-append (leaves F) Gs)
    ∙ sym (append_assoc (emitted (emits F)) (all_to_write (leaves F)) (all_to_write Gs))
    ∙ rw (step-writes F g)

-- ---- how many steps there are
abbrev pub nodes : Enum → ℕ
nodes (end f) = 1
nodes (elem n i r) = suc (nodes i + nodes r)

abbrev pub copy_steps : Enum → Enum → ℕ
copy_steps (end f) x = suc (nodes x)
copy_steps (elem n i r) x = suc (copy_steps i (inner n.bytes x) + copy_steps r x)

abbrev steps_of : Frame → ℕ
steps_of (copy w r x) = copy_steps r x
steps_of (add w y) = nodes y

abbrev pub steps : List Frame → ℕ
steps [] = 0
steps (F ∷ Fs) = steps_of F + steps Fs

nodes-pos : (e : Enum) → 0 < nodes e
nodes-pos (end f) = omega arith
nodes-pos (elem n i r) = omega arith

steps-two : (p : Bool) (F G : Frame) → steps (cond p (G ∷ []) (F ∷ G ∷ [])) ≤ steps_of F + steps_of G
steps-two true F G = omega arith
steps-two false F G = omega arith

step_less : (F : Frame) → steps (leaves F) < steps_of F
step_less (copy w (end f) x) = omega arith
step_less (copy w (elem n i r) x) =
    let h = steps-two (plain i && plain (inner n.bytes x)) (copy i i (inner n.bytes x)) (copy w r x) in
    omega arith
step_less (add w (end g)) = omega arith
step_less (add w (elem m j r)) = go (has m.bytes w)
  where
    go : (t : Bool) → steps (cond t (add w r ∷ []) (cond (plain j) (add w r ∷ []) (add (end false) j ∷ add w r ∷ [])))
        < suc (nodes j + nodes r)
    go true = let h = nodes-pos j in omega arith
    go false = let h = steps-two (plain j) (add (end false) j) (add w r) in omega arith

steps-append : (Fs Gs : List Frame) → steps (Fs ++ Gs) ≡ steps Fs + steps Gs
steps-append [] Gs = omega arith
steps-append (F ∷ Fs) Gs = let h = steps-append Fs Gs in omega arith

steps-fall : (F : Frame) (Gs : List Frame) → steps (leaves F ++ Gs) < steps (F ∷ Gs)
steps-fall F Gs = let h = step_less F in rw (steps-append (leaves F) Gs) (omega arith)

inner-nodes : (n : List ℕ) (x : Enum) → nodes (inner n x) ≤ nodes x
inner-nodes n (end f) = omega arith
inner-nodes n (elem m i r) = go (same n m.bytes) (inner-nodes n r)
  where
    go : (t : Bool) → nodes (inner n r) ≤ nodes r
        → nodes (or_empty (cond t (some i) (at n r))) ≤ suc (nodes i + nodes r)
    go true h = omega arith
    go false h = omega arith

grow : (a b k : ℕ) → suc (a + b) * k ≡ a * k + b * k + k
grow a b k = suc-mul (a + b) k ∙ rw (add-mul a b k)

pub copy-steps : (b x : Enum) (k : ℕ) → nodes x ≤ k → copy_steps b x ≤ nodes b * (k + 1)
copy-steps (end f) x k h = omega arith
copy-steps (elem n i r) x k h =
    let p = copy-steps i (inner n.bytes x) k (le_trans (inner-nodes n.bytes x) h) in
    let q = copy-steps r x k h in
    rw (grow (nodes i) (nodes r) (k + 1)) (omega arith)

-- ---- whether nothing is added where nothing may be
abbrev pub add_ok : Enum → Enum → Bool
add_ok w (end g) = true
add_ok w (elem m j r) = (has m.bytes w || not (final w)) && add_ok w r

abbrev pub copy_ok : Enum → Enum → Enum → Bool
copy_ok (end f) w x = add_ok w x
copy_ok (elem n i r) w x = copy_ok i i (inner n.bytes x) && copy_ok r w x

abbrev ok_of : Frame → Bool
ok_of (copy w r x) = copy_ok r w x
ok_of (add w y) = add_ok w y

abbrev pub ok : List Frame → Bool
ok [] = true
ok (F ∷ Fs) = ok_of F && ok Fs

ok-nothing : (j : Enum) → add_ok (end false) j ≡ true
ok-nothing (end g) = refl
ok-nothing (elem m j r) = ok-nothing r

ok-plain : (i j : Enum) → (plain i && plain j) ≡ true → copy_ok i i j ≡ true
ok-plain (end f) (end g) h = refl
ok-plain (end true) (elem m j r) h = never h
ok-plain (end false) (elem m j r) h = never h
ok-plain (elem n i r) j h = never h

and-true : (a : Bool) → (a && true) ≡ a
and-true true = refl
and-true false = refl

and_assoc : (a b c : Bool) → ((a && b) && c) ≡ (a && (b && c))
and_assoc true b c = refl
and_assoc false b c = refl

heading-goes : (n : Name) (p f : Bool) → goes (heading n p f) ≡ true
heading-goes n true f = refl
heading-goes n false f = refl

step_ok : (F : Frame) → ok_of F ≡ (goes (emits F) && ok (leaves F))
step_ok (copy w (end f) x) = sym (and-true (add_ok w x))
step_ok (copy w (elem n i r) x) =
    rw (heading-goes n (plain i && plain (inner n.bytes x)) (final i || final (inner n.bytes x)))
    (go (plain i && plain (inner n.bytes x)) refl)
  where
    go : (t : Bool) → (plain i && plain (inner n.bytes x)) ≡ t →
        (copy_ok i i (inner n.bytes x) && copy_ok r w x)
        ≡ ok (cond t (copy w r x ∷ []) (copy i i (inner n.bytes x) ∷ copy w r x ∷ []))
    go true e = rw (ok-plain i (inner n.bytes x) e) (sym (and-true (copy_ok r w x)))
    go false e = rw (and-true (copy_ok r w x))
step_ok (add w (end g)) = refl
step_ok (add w (elem m j r)) = go (has m.bytes w) (final w) (plain j)
  where
    go : (t u p : Bool) → ((t || not u) && add_ok w r) ≡ (goes (cond t Quiet (cond u Barred (heading m p (final j))))
        && ok (cond t (add w r ∷ []) (cond p (add w r ∷ []) (add (end false) j ∷ add w r ∷ []))))
    go true u p = sym (and-true (add_ok w r))
    go false true p = refl
    go false false true = sym (and-true (add_ok w r))
    go false false false = rw (ok-nothing j, and-true (add_ok w r))

ok-append : (Fs Gs : List Frame) → ok (Fs ++ Gs) ≡ (ok Fs && ok Gs)
ok-append [] Gs = refl
ok-append (F ∷ Fs) Gs = rw (ok-append Fs Gs) (sym (and_assoc (ok_of F) (ok Fs) (ok Gs)))

ok_step : (F : Frame) (Gs : List Frame) → ok (F ∷ Gs) ≡ (goes (emits F) && ok (leaves F ++ Gs))
ok_step F Gs = rw (step_ok F, ok-append (leaves F) Gs) (and_assoc (goes (emits F)) (ok (leaves F)) (ok Gs))

-- ---- the whole walk: all the records, or none where something is barred
abbrev pub walked : ℕ → List Frame → Ran
walked zero Fs = wrote []
walked (suc k) [] = wrote []
walked (suc k) (F ∷ Fs) = cond (goes (emits F)) (before (emitted (emits F)) (walked k (leaves F ++ Fs))) barred

pub walk-whole : (k : ℕ) (Fs : List Frame) → steps Fs < k → walked k Fs ≡ cond (ok Fs) (wrote (all_to_write Fs)) barred
walk-whole zero Fs h = absurd (omega arith)
walk-whole (suc k) [] h = refl
walk-whole (suc k) (F ∷ Fs) h =
    go (goes (emits F)) refl (let g = steps-fall F Fs in walk-whole k (leaves F ++ Fs) (omega arith))
  where
    either : (t : Bool) → goes (emits F) ≡ true →
        before (emitted (emits F)) (cond t (wrote (all_to_write (leaves F ++ Fs))) barred)
        ≡ cond t (wrote (all_to_write (F ∷ Fs))) barred
    either true g = ap wrote (write_step F Fs g)
    either false g = refl

    go : (t : Bool) → goes (emits F) ≡ t
        → walked k (leaves F ++ Fs) ≡ cond (ok (leaves F ++ Fs)) (wrote (all_to_write (leaves F ++ Fs))) barred
        → cond (goes (emits F)) (before (emitted (emits F)) (walked k (leaves F ++ Fs))) barred
        ≡ cond (ok (F ∷ Fs)) (wrote (all_to_write (F ∷ Fs))) barred
    go true e q = rw (ok_step F Fs, e, q) (either (ok (leaves F ++ Fs)) e)
    go false e q = rw (ok_step F Fs, e)

-- the walk from the start writes the merged list
pub walk-merge : (k : ℕ) (b x : Enum) → copy_steps b x < k
    → walked k (copy b b x ∷ []) ≡ cond (copy_ok b b x) (wrote (element_records (merge b x))) barred
walk-merge k b x h =
    walk-whole k (copy b b x ∷ []) (omega arith)
    ∙ rw (and-true (copy_ok b b x), append-nil (element_records (merge b x)))
