-- What the scans find in a text t from a place i on.
use Rattle.std.specs.Prelude.{Bool, cond, not, ◌&&◌, ◌||◌, List, [], ◌∷◌, ℕ, suc, ◌+◌, drop, get_or, eqb, ltb}
use Rattle.std.specs.Prelude.{Option, Some, None, Result, Ok, Err}
use Rattle.rules.specs.Bytes.{is, is_digit, is_line_end}
use Rattle.rules.specs.Symbols.{escape}
use Rattle.ground.specs.Parts.{run_end}
use Rattle.places.specs.declared.Line.{Line}
use Rattle.places.specs.Standing.{behind_byte}
use Rattle.scans.specs.declared.Passed.{Passed}
use Rattle.scans.specs.declared.NoComment.{NoComment}
use Rattle.scans.specs.declared.NoComment.TheVariants.{Open, Absent}

-- a comment is passed up to the place k, which stands on the line x
abbrev pub passed_to : ℕ → Line → Result Passed NoComment
passed_to k x = Ok (record { end = k; line = x })

-- a separator that ends no line
abbrev pub is_blank : ℕ → Bool
is_blank b = is " " b || is "\t" b

abbrev pub not_line_end : ℕ → Bool
not_line_end b = not (is_line_end b)

-- the bytes a and b stand at i
abbrev pub two_at : List ℕ → ℕ → ℕ → ℕ → Bool
two_at t i a b = eqb (get_or t i 0) a && eqb (get_or t (i + 1) 0) b

-- behind the first `*/` of s, the bytes of t from the place k on, which stands on the line x
abbrev pub close_of : List ℕ → List ℕ → ℕ → Line → Result Passed NoComment
close_of t [] k x = Err Open
close_of t (b ∷ s) k x =
    let r = close_of t s (suc k) (behind_byte t k x) in
    cond (is "*" b && is "/" (get_or s 0 0)) (passed_to (suc (suc k)) x) r

-- behind the comment at i, which stands on the line x
unfoldable pub comment_at : List ℕ → ℕ → Line → Result Passed NoComment
comment_at t i x =
    cond (two_at t i 33 33) (passed_to (run_end not_line_end t (i + 1)) x)
    (cond (two_at t i 47 42) (close_of t (drop (i + 2) t) (i + 2) x) (Err Absent))

-- behind the dot at i and the digits behind it, if there are any
abbrev pub fraction_end : List ℕ → ℕ → ℕ
fraction_end t i = cond (is "." (get_or t i 0) && is_digit (get_or t (i + 1) 0)) (run_end is_digit t (i + 1)) i

-- how many bytes of a string begin at i: one, or the backslash and what belongs to it; none where
-- the byte is not allowed
unfoldable pub step_at : List ℕ → ℕ → Option ℕ
step_at t i =
    let n : ℕ = escape (drop (i + 1) t) in
    cond (ltb (get_or t i 0) 32) None (cond (is "\\" (get_or t i 0)) (cond (eqb n 0) None (Some (1 + n))) (Some 1))
