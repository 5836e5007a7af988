-- Tests of bytes.
use Rattle.std.specs.Prelude.{Bool, ℕ, ◌≡◌, ◌<◌}

-- what the code's test A answers of a byte is what the test p says
abbrev pub Answers : (ℕ → Bool → Type 0) → (ℕ → Bool) → Type 0
Answers A p = (b : ℕ) (r : Bool) → b < 256 → A b r → r ≡ p b
