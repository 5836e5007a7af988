-- Rules judged in stages: the first that is broken, of a list cut in two.
use Rattle.std.proofs.Common.{◌≡◌, refl, Bool, true, false, cond, List, [], ◌∷◌, ◌++◌}
use Rattle.std.specs.Prelude.{⊤, Ok, Err}
use Rattle.std.specs.Result.{result_and}
use Rattle.rules.specs.Declarations.{State}
use Rattle.rules.specs.Judge.{Rule, refused, first_broken_or}
use Rattle.ground.specs.declared.Ruling.{Ruling}
use Rattle.ground.specs.Rulings.{ruling_of, judged_by}

pub first-broken-by : (l m : List Rule) (s : State)
    → first_broken_or (l ++ m) s ≡ judged_by (ruling_of l) (first_broken_or m s)
first-broken-by [] m s = refl
first-broken-by (r ∷ l) m s = go r.broken (first-broken-by l m s)
  where
    go : (b : Bool) → first_broken_or (l ++ m) s ≡ judged_by (ruling_of l) (first_broken_or m s) →
        cond b (refused r.number r.place) (first_broken_or (l ++ m) s)
        ≡ judged_by (cond b (Err (record { number = r.number; place = r.place })) (ruling_of l)) (first_broken_or m s)
    go true e = refl
    go false e = e

pub ruling-append : (l m : List Rule) → ruling_of (l ++ m) ≡ result_and (ruling_of l) (ruling_of m)
ruling-append [] m = refl
ruling-append (r ∷ l) m = go r.broken (ruling-append l m)
  where
    go : (b : Bool) → ruling_of (l ++ m) ≡ result_and (ruling_of l) (ruling_of m) →
        cond b (Err (record { number = r.number; place = r.place })) (ruling_of (l ++ m))
        ≡ result_and (cond b (Err (record { number = r.number; place = r.place })) (ruling_of l)) (ruling_of m)
    go true e = refl
    go false e = e

pub ruling-first : (l m : List Rule) (q : Ruling) → ruling_of l ≡ Err q → ruling_of (l ++ m) ≡ Err q
ruling-first l m q e = rw e at (ruling-append l m)

pub ruling-rest : (l m : List Rule) (x : ⊤) → ruling_of l ≡ Ok x → ruling_of (l ++ m) ≡ ruling_of m
ruling-rest l m x e = rw e at (ruling-append l m)
