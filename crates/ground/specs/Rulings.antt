-- The first rule that is broken, as the code hands it on.
use Rattle.std.specs.Prelude.{cond, List, [], ◌∷◌, ⊤, Result, Ok, Err}
use Rattle.rules.specs.Judge.{Rule, Judged, refused}
use Rattle.ground.specs.declared.Ruling.{Ruling}

abbrev pub ruling_of : List Rule → Result ⊤ Ruling
ruling_of [] = Ok tt
ruling_of (r ∷ l) = let x = ruling_of l in cond r.broken (Err (record { number = r.number; place = r.place })) x

abbrev pub judged_by : Result ⊤ Ruling → Judged → Judged
judged_by (Ok x) j = j
judged_by (Err r) j = refused r.number r.place
