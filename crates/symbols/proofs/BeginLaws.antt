-- The symbol that begins with a byte, by the byte's class.
use mathlib.Core.Path.{◌≡◌, refl, sym, ap, ◌∙◌, subst⁻¹}
use mathlib.Core.Logic.{◌⊎◌, inl, inr}
use mathlib.Core.Bool.{Bool, true, false, cond, not, ◌||◌}
use mathlib.Core.List.{List, [], ◌∷◌}
use Prim.Native.Nat.{ℕ, suc, ◌+◌, ◌-◌, ◌≤◌, ◌<◌}
use native.Mathlib.Numerals.{add-one}
use native.Mathlib.Omega.{arith}
use lib.ListN.{length, take, drop, get_or, drop_of_length-le}
use lib.Seq.{drop-cons}
use borrow.Author.Tests.{eqb-true}
use Rattle.rules.specs.Bytes.{part, is, is_letter, is_digit, is_word_byte, is_separator, span}
use Rattle.rules.specs.Symbols.{Symbol, no_symbol, unclosed, fault, mark, dots, stop, symbol, is_mark_byte}
use Rattle.rules.specs.Symbols.{unsigned_length}
use Rattle.rules.specs.Symbols.{quote, a_word, a_number, a_string, symbol_of, beyond, symbol_at}
use Rattle.rules.proofs.Tests.{split, or_split, or_r, or-fails, not_is, is_false, not-both}
use Rattle.rules.proofs.SymbolLaws.{next-lies}
use Rattle.places.specs.declared.Line.{Line}
use Rattle.places.specs.Standing.{behind_byte, line_to}
use Rattle.places.proofs.StandingLaws.{to-here, to-over, to-go}
use Rattle.places.proofs.LevelLaws.{level-run, to_level}
use Rattle.symbols.specs.declared.Symbol as Symbol-code
use Rattle.symbols.specs.Cut.{made, cut_on, next_of}
use Rattle.symbols.specs.declared.Class.TheVariants.{Letter, Digit, Sign, Quote, Comment, Punctuation, Blank}
use Rattle.symbols.specs.declared.Class.TheVariants.{LineEnd, Other}
use Rattle.symbols.specs.declared.Class.{Class}
use Rattle.std.specs.Prelude.{Result, Ok, Err}
use Rattle.scans.specs.declared.Passed.{Passed}
use Rattle.scans.specs.declared.NoComment.{NoComment}
use Rattle.scans.specs.declared.NoComment.TheVariants.{Open, Absent}
use Rattle.ground.specs.Parts.{run_end}
use Rattle.scans.specs.Scans.{is_blank, comment_at}
use Rattle.symbols.specs.Begins.{class_of, word_cut, signed_cut, string_cut, mark_cut}
use Rattle.ground.proofs.TableLaws.{test}
use Rattle.symbols.proofs.ClassLaws.{begins, begins_none, class-first, is_between, class-between}
use Rattle.rules.proofs.PartLaws.{length_part}
use Rattle.ground.proofs.ScanLaws.{next-byte, run-go, run-le}
use Rattle.symbols.proofs.GapLaws.{onward, gap-run, gap-one, gap-comment, gap-none, comment-ahead}
use Rattle.symbols.proofs.LineLaws.{string-level}
use Rattle.scans.proofs.EscapeLaws.{stands}

cut-cond : (l : Line) (x : Bool) (y z : Symbol) → cut_on l (cond x y z) ≡ cond x (cut_on l y) (cut_on l z)
cut-cond l true y z = refl
cut-cond l false y z = refl

place-cond : (i : ℕ) (x : Bool) (y z : Symbol) → y.place ≡ i → z.place ≡ i → (cond x y z).place ≡ i
place-cond i true y z h k = h
place-cond i false y z h k = k

-- ---- the next symbol from the place i on, which stands on the line x
module _ (t : List ℕ) (i : ℕ) (x : Line) where
  abbrev next : Symbol-code.Symbol
  next = next_of t (record { at = i; line = x })

  -- it begins on that line
  begins-on : (z : Symbol) → symbol_at t i ≡ z → line_to t i z.place x ≡ x → next ≡ cut_on x z
  unfolding next_of
  begins-on z e h = ap (λ y. cut_on (line_to t i y.place x) y) e ∙ ap (λ l. cut_on l z) h

  begins-here : (z : Symbol) → symbol_at t i ≡ z → z.place ≡ i → next ≡ cut_on x z
  begins-here z e h = begins-on z e (ap (λ j. line_to t i j x) h ∙ to-here t i x)

  -- it is the next one from j on too
  pub passed_to : (j : ℕ) (y : Line) → i ≤ j → j ≤ length t → y ≡ line_to t i j x → symbol_at t i ≡ symbol_at t j
      → next ≡ next_of t (record { at = j; line = y })
  unfolding next_of
  passed_to j y h k l e =
      ap (λ z. cut_on (line_to t i z.place x) z) e
      ∙ ap (λ l. cut_on l (symbol_at t j)) (to-over t i j (symbol_at t j).place x h (next-lies t j k).starts
      ∙ ap (line_to t j (symbol_at t j).place) (sym l))

  pub next-end : length t ≤ i → next ≡ made 0 5 i 0 x
  unfolding symbol_at symbol_of
  next-end h = begins-here (symbol stop i []) (at-end h) refl
    where
      at-end : length t ≤ i → symbol_at t i ≡ symbol stop i []
      at-end h = let e = drop_of_length-le t h in rw (e, e)

-- a byte that begins no word, no number and no string
fails : (b : ℕ) → begins b ≡ false
    → (is_letter b ≡ false) × (is_digit b ≡ false) × ((is "+" b || is "-" b) ≡ false) × (is "\"" b ≡ false)
fails b e =
    let (l, r) = or-fails {x = is_letter b} e in
    let (d, s) = or-fails {x = is_digit b} r in
    let (g, q) = or-fails {x = is "+" b || is "-" b} s in
    (l, d, g, q)

mark-no-dot : (b : ℕ) → is_mark_byte b ≡ true → is "." b ≡ false
mark-no-dot b e =
    is_false (λ q.
    let p : b ≡ 46 = eqb-true b 46 q in
    let n : is_mark_byte b ≡ false = rw p in
    not-both e n)

blank-apart : (b : ℕ) → is_blank b ≡ true → is_separator b ≡ true
blank-apart b e = at (or_split {x = is " " b} e)
  where
    at : (is " " b ≡ true) ⊎ (is "\t" b ≡ true) → is_separator b ≡ true
    at (inl p) = rw p
    at (inr p) = or_r (is " " b) (rw p)

-- ---- the symbol of b ∷ s, by b
module _ (k : ℕ) (s : List ℕ) where
  abbrev signed : ℕ → Symbol
  signed b =
      cond (is_digit (get_or s 0 0)) (a_number k (take (suc (unsigned_length s)) (b ∷ s)))
      (symbol (fault no_symbol) k [])

  of-sign : (b : ℕ) → (b ≡ 43) ⊎ (b ≡ 45) → symbol_of k (b ∷ s) ≡ signed b
  unfolding symbol_of
  of-sign b (inl p) = subst⁻¹ (λ (x : ℕ). symbol_of k (x ∷ s) ≡ signed x) p refl
  of-sign b (inr p) = subst⁻¹ (λ (x : ℕ). symbol_of k (x ∷ s) ≡ signed x) p refl

  of-quote : (b : ℕ) → b ≡ 34 → symbol_of k (b ∷ s) ≡ a_string k (b ∷ s) (quote s 0 0)
  unfolding symbol_of
  of-quote b p = subst⁻¹ (λ (x : ℕ). symbol_of k (x ∷ s) ≡ a_string k (x ∷ s) (quote s 0 0)) p refl

  abbrev dotted : ℕ → Symbol
  dotted b = cond (is "." (get_or s 0 0)) (symbol dots k (take 2 (b ∷ s))) (symbol (mark b) k (b ∷ []))

  of-rest : (b : ℕ) → begins b ≡ false → symbol_of k (b ∷ s)
      ≡ cond (is_mark_byte b) (symbol (mark b) k (b ∷ [])) (cond (is "." b) (dotted b) (symbol (fault no_symbol) k []))
  unfolding symbol_of
  of-rest b e = let (l, d, g, q) = fails b e in rw (l, d, g, q)

-- ---- the next symbol, by the class of the byte that stands at i
module _ (t : List ℕ) (i : ℕ) (x : Line) (h : i < length t) (l : get_or t i 0 < 256) where
  abbrev b : ℕ
  b = get_or t i 0

  -- a symbol that begins there
  here : (k : Class) → class_of b ≡ k → is_between k ≡ false → symbol_at t i ≡ symbol_of i (drop i t)
  unfolding symbol_at
  here k c f = let (s, u, y) = class-between b k l c f in rw (gap-none t i x h s u y)

  pub next-letter : class_of b ≡ Letter → next t i x ≡ word_cut t i x
  unfolding symbol_of
  next-letter c = begins-here t i x _ at refl
    where
      at : symbol_at t i ≡ a_word i (part t i (run_end is_word_byte t (i + 1) - i))
      at =
          let n : suc i + span is_word_byte (drop (suc i) t) - i
          ≡ suc (span is_word_byte (drop (suc i) t)) = omega arith in
          here Letter c refl ∙ rw (add-one i, n, drop-cons t i 0 h, class-first b Letter l c)

  pub next-digit : class_of b ≡ Digit → next t i x ≡ cut_on x (a_number i (part t i (unsigned_length (drop i t))))
  unfolding symbol_of
  next-digit c = begins-here t i x _ at refl
    where
      at : symbol_at t i ≡ a_number i (part t i (unsigned_length (drop i t)))
      at =
          let (n, f) = split {x = not (is_letter b)} (class-first b Digit l c) in
          let e : is_letter b ≡ false = not_is n in
          here Digit c refl ∙ rw (drop-cons t i 0 h, e, f)

  pub sign-no-digit : class_of b ≡ Sign → is_digit b ≡ false
  sign-no-digit c = not_is (split {x = not (is_digit b)} (class-first b Sign l c)).0

  pub next-sign : class_of b ≡ Sign → next t i x ≡ signed_cut t i x
  next-sign c =
      let n : 1 + unsigned_length (drop (suc i) t) ≡ suc (unsigned_length (drop (suc i) t)) = omega arith in
      let e : (is "+" b || is "-" b) ≡ true = (split {x = not (is_digit b)} (class-first b Sign l c)).1 in
      let z = signed i (drop (suc i) t) b in
      let f : symbol_at t i ≡ z = here Sign c refl
      ∙ rw (drop-cons t i 0 h) (of-sign i (drop (suc i) t) b (sign (or_split {x = is "+" b} e))) in
      begins-here t i x z f (place-cond i (is_digit (get_or (drop (suc i) t) 0 0)) _ _ refl refl)
      ∙ rw (← next-byte t i, add-one i, n, drop-cons t i 0 h) (cut-cond x (is_digit (get_or (drop (suc i) t) 0 0)) _ _)
    where
      sign : (is "+" b ≡ true) ⊎ (is "-" b ≡ true) → (b ≡ 43) ⊎ (b ≡ 45)
      sign (inl p) = inl (eqb-true _ _ p)
      sign (inr p) = inr (eqb-true _ _ p)

  pub next-quote : class_of b ≡ Quote → next t i x ≡ string_cut t i x
  next-quote c =
      let q : b ≡ 34 = eqb-true b 34 (class-first b Quote l c) in
      let f : symbol_at t i ≡ a_string i (drop i t) (quote (drop (i + 1) t) 0 0) = here Quote c refl
      ∙ rw (add-one i, drop-cons t i 0 h) (of-quote i (drop (suc i) t) b q) in
      begins-on t i x _ f (string-level t i x h q)

  -- a byte that begins no word, no number and no string
  abbrev rest : Symbol
  rest =
      cond (is_mark_byte b) (symbol (mark b) i (b ∷ []))
      (cond (is "." b) (dotted i (drop (suc i) t) b) (symbol (fault no_symbol) i []))

  rest-on : symbol_at t i ≡ symbol_of i (drop i t) → begins b ≡ false → next t i x ≡ cut_on x rest
  rest-on e f =
      let g : symbol_at t i ≡ rest = e ∙ rw (drop-cons t i 0 h) (of-rest i (drop (suc i) t) b f) in
      begins-here t i x rest g
      (place-cond i (is_mark_byte b) _ _ refl
      (place-cond i (is "." b) _ _ (place-cond i (is "." (get_or (drop (suc i) t) 0 0)) _ _ refl refl) refl))

  dot-cut : cut_on x (dotted i (drop (suc i) t) b)
      ≡ cond (is "." (get_or t (i + 1) 0)) (made 4 5 i 2 x) (made b 5 i 1 x)
  dot-cut =
      rw (next-byte t i)
      (test (is "." (get_or t (i + 1) 0))
      (λ k.
      let j : i + 1 < length t = stands t (i + 1) (λ z. omega (arith, eqb-true (get_or t (i + 1) 0) 46 k)) in
      let n : length (take 1 (drop (suc i) t)) ≡ 1 = length_part t (suc i) 1 (omega arith) in
      rw (k, n))
      (λ k. rw k))

  pub next-mark : class_of b ≡ Punctuation → next t i x ≡ mark_cut t i x
  next-mark c =
      let (e, f) = split {x = not (begins b)} (class-first b Punctuation l c) in
      rest-on (here Punctuation c refl) (not_is e)
      ∙ test (is_mark_byte b) (λ m. rw (m, mark-no-dot b m))
      (λ m.
      let o : is "." b ≡ true = rw m at f in
      rw (m, o) dot-cut)

  none-on : symbol_at t i ≡ symbol_of i (drop i t) → begins_none b ≡ true → next t i x ≡ made 5 2 i 0 x
  none-on g n =
      let (e, f) = or-fails {x = begins b} (not_is n) in
      let (m, o) = or-fails {x = is_mark_byte b} f in
      rest-on g e ∙ rw (m, o)

  pub next-none : class_of b ≡ Other → next t i x ≡ made 5 2 i 0 x
  next-none c = none-on (here Other c refl) (class-first b Other l c)

  -- ---- a separator or a comment
  pub next-blank : class_of b ≡ Blank → next t i x
      ≡ next_of t (record { at = run_end is_blank t (i + 1); line = x })
  unfolding symbol_at
  next-blank c =
      let p : is_blank b ≡ true = class-first b Blank l c in
      let e : run_end is_blank t i ≡ run_end is_blank t (i + 1) = run-go is_blank t i h p in
      let n : i + span is_blank (drop i t) - i ≡ span is_blank (drop i t) = omega arith in
      let v : line_to t i (run_end is_blank t i) x ≡ x =
      to_level t i (run_end is_blank t i) x (rw n (level-run is_blank refl refl (drop i t))) in
      rw (← e) (passed_to t i x (run_end is_blank t i) x (omega arith) (run-le is_blank t i (omega arith)) (sym v) at)
    where
      at : symbol_at t i ≡ symbol_at t (run_end is_blank t i)
      at = ap (beyond t) (gap-run is_blank (λ b e. blank-apart b e) t (drop i t) i refl)

  pub next-line : class_of b ≡ LineEnd → next t i x ≡ next_of t (record { at = i + 1; line = behind_byte t i x })
  unfolding symbol_at
  next-line c =
      let p : is_separator b ≡ true = or_r (is " " b) (or_r (is "\t" b) (class-first b LineEnd l c)) in
      let v : behind_byte t i x ≡ line_to t i (i + 1) x =
      sym (to-go t i (i + 1) x (omega arith) ∙ rw (add-one i) (to-here t (suc i) (behind_byte t i x))) in
      passed_to t i x (i + 1) (behind_byte t i x) (omega arith) (omega arith) v (at p)
    where
      at : is_separator b ≡ true → symbol_at t i ≡ symbol_at t (i + 1)
      at p = ap (beyond t) (gap-one t i x h p)

  symbol-behind : (r : Result Passed NoComment) → class_of b ≡ Comment → comment_at t i x ≡ r
      → symbol_at t i ≡ beyond t (onward t i r)
  unfolding symbol_at
  symbol-behind r c e =
      let s = not_is (split {x = not (is_separator b)} (class-first b Comment l c)).0 in
      ap (beyond t) (gap-comment t i x h s ∙ ap (onward t i) e)

  pub next-passed : (p : Passed) → class_of b ≡ Comment → comment_at t i x ≡ Ok p
      → next t i x ≡ next_of t (record { at = p.end; line = p.line })
  unfolding symbol_at
  next-passed p c e =
      let (a, k, v) = comment-ahead t i x p h e in
      passed_to t i x p.end p.line (omega arith) k v at
    where
      at : symbol_at t i ≡ symbol_at t p.end
      at = symbol-behind (Ok p) c e

  pub next-open : class_of b ≡ Comment → comment_at t i x ≡ Err Open → next t i x ≡ made 5 3 i 0 x
  next-open c e = begins-here t i x (symbol (fault unclosed) i []) (symbol-behind (Err Open) c e) refl

  pub next-slash : class_of b ≡ Comment → comment_at t i x ≡ Err Absent → next t i x ≡ made 5 2 i 0 x
  next-slash c e =
      none-on (symbol-behind (Err Absent) c e) (split {x = not (is_separator b)} (class-first b Comment l c)).1
