-- An answer as documents 01 and 02 print it: a word, and its numbers behind a blank each.
use Rattle.std.specs.Prelude.{List, ℕ, ◌++◌, codes, decimal, Ok, Err}
use Rattle.answers.specs.declared.Accepted.{Accepted}
use Rattle.answers.specs.declared.Refusal.{Refusal}
use Rattle.answers.specs.Answers.{Coded}

abbrev pub shown_accepted : Accepted → List ℕ
shown_accepted a = codes "ok " ++ decimal a.length ++ codes " " ++ decimal a.definitions

abbrev pub shown_refusal : Refusal → List ℕ
shown_refusal r =
    codes "refused " ++ decimal r.number ++ codes " " ++ decimal r.place ++ codes " " ++ decimal r.line
    ++ codes " " ++ decimal r.column

abbrev pub shown : Coded → List ℕ
shown (Ok a) = shown_accepted a
shown (Err r) = shown_refusal r
