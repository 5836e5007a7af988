use Rattle.std.proofs.Common.{refl, List, [], ◌∷◌, ℕ}
use Rattle.words.specs.Words.{word_code}
use Rattle.words.proofs.WordLaws.{word-found, no_length}
use Rattle.words.proofs.code_of.Goals as goal

-- the keys, the last arm's first
keys : List (List ℕ)
keys =
    (21 ∷ []) ∷ (16 ∷ []) ∷ (13 ∷ []) ∷ (12 ∷ []) ∷ (11 ∷ []) ∷ (10 ∷ []) ∷ (9 ∷ []) ∷ (8 ∷ []) ∷ (7 ∷ [])
    ∷ (6 ∷ []) ∷ (5 ∷ []) ∷ (4 ∷ []) ∷ (3 ∷ []) ∷ (2 ∷ []) ∷ []

pub returns-in-2 : goal.returns-in-2
unfolding word_code
returns-in-2 c = word-found _ _ 2 _ c.in-2.is refl c.among.ensures

pub returns-in-3 : goal.returns-in-3
unfolding word_code
returns-in-3 c = word-found _ _ 3 _ c.in-3.is refl c.among-in-3.ensures

pub returns-in-4 : goal.returns-in-4
unfolding word_code
returns-in-4 c = word-found _ _ 4 _ c.in-4.is refl c.among-in-4.ensures

pub returns-in-5 : goal.returns-in-5
unfolding word_code
returns-in-5 c = word-found _ _ 5 _ c.in-5.is refl c.among-in-5.ensures

pub returns-in-6 : goal.returns-in-6
unfolding word_code
returns-in-6 c = word-found _ _ 6 _ c.in-6.is refl c.among-in-6.ensures

pub returns-in-7 : goal.returns-in-7
unfolding word_code
returns-in-7 c = word-found _ _ 7 _ c.in-7.is refl c.among-in-7.ensures

pub returns-in-8 : goal.returns-in-8
unfolding word_code
returns-in-8 c = word-found _ _ 8 _ c.in-8.is refl c.among-in-8.ensures

pub returns-in-9 : goal.returns-in-9
unfolding word_code
returns-in-9 c = word-found _ _ 9 _ c.in-9.is refl c.among-in-9.ensures

pub returns-in-10 : goal.returns-in-10
unfolding word_code
returns-in-10 c = word-found _ _ 10 _ c.in-10.is refl c.among-in-10.ensures

pub returns-in-11 : goal.returns-in-11
unfolding word_code
returns-in-11 c = word-found _ _ 11 _ c.in-11.is refl c.among-in-11.ensures

pub returns-in-12 : goal.returns-in-12
unfolding word_code
returns-in-12 c = word-found _ _ 12 _ c.in-12.is refl c.among-in-12.ensures

pub returns-in-13 : goal.returns-in-13
unfolding word_code
returns-in-13 c = word-found _ _ 13 _ c.in-13.is refl c.among-in-13.ensures

pub returns-in-16 : goal.returns-in-16
unfolding word_code
returns-in-16 c = word-found _ _ 16 _ c.in-16.is refl c.among-in-16.ensures

pub returns-in-21 : goal.returns-in-21
unfolding word_code
returns-in-21 c = word-found _ _ 21 _ c.in-21.is refl c.among-in-21.ensures

pub returns-in_default : goal.returns-in_default
unfolding keys
returns-in_default c = no_length c.args.word.now keys refl c.in_default.in_default-own.rest
