-- A term as a list of marks, operands before operators. It is here because a value that contracts see must have a code.
use Rattle.std.specs.Prelude.{◌≡◌, ℕ, zero, suc, List, [], ◌∷◌, ◌++◌, refl}
use Rattle.std.specs.Coded.{Coded, code_by, coded×, coded_ℕ, coded_list}
use Rattle.std.proofs.Common.{◌∙◌, ap}
use Rattle.usuba0.specs.Term.{Term, Input, Const, Xor, Not, Mask, And, Shl, Shr, Rotl, Refresh}

-- the marks of a term
abbrev marks : Term → List (ℕ × ℕ)
marks (Input i) = (0, i) ∷ []
marks (Const c) = (1, c) ∷ []
marks (Xor a b) = (marks a ++ marks b) ++ (2, 0) ∷ []
marks (Not a) = marks a ++ (3, 0) ∷ []
marks (Mask c a) = marks a ++ (4, c) ∷ []
marks (And a b) = (marks a ++ marks b) ++ (5, 0) ∷ []
marks (Shl k a) = marks a ++ (6, k) ∷ []
marks (Shr k a) = marks a ++ (7, k) ∷ []
marks (Rotl k a) = marks a ++ (8, k) ∷ []
marks (Refresh k a) = marks a ++ (9, k) ∷ []

-- what one mark makes of the terms that were read, the last one first
abbrev read_one : ℕ → ℕ → List Term → List Term
read_one zero k done = Input k ∷ done
read_one (suc zero) k done = Const k ∷ done
read_one (suc (suc zero)) k (b ∷ a ∷ done) = Xor a b ∷ done
read_one (suc (suc (suc zero))) k (a ∷ done) = Not a ∷ done
read_one (suc (suc (suc (suc zero)))) k (a ∷ done) = Mask k a ∷ done
read_one (suc (suc (suc (suc (suc zero))))) k (b ∷ a ∷ done) = And a b ∷ done
read_one (suc (suc (suc (suc (suc (suc zero)))))) k (a ∷ done) = Shl k a ∷ done
read_one (suc (suc (suc (suc (suc (suc (suc zero))))))) k (a ∷ done) = Shr k a ∷ done
read_one (suc (suc (suc (suc (suc (suc (suc (suc zero)))))))) k (a ∷ done) = Rotl k a ∷ done
read_one (suc (suc (suc (suc (suc (suc (suc (suc (suc zero))))))))) k (a ∷ done) = Refresh k a ∷ done
read_one _ k done = done

-- what the marks make
abbrev read_all : List (ℕ × ℕ) → List Term → List Term
read_all [] done = done
read_all (m ∷ ms) done = read_all ms (read_one m.0 m.1 done)

-- the last term that was read
abbrev last_read : List Term → Term
last_read [] = Input 0
last_read (t ∷ ts) = t

read_all-append : (xs ys : List (ℕ × ℕ)) (done : List Term) → read_all (xs ++ ys) done ≡ read_all ys (read_all xs done)
read_all-append [] ys done = refl
read_all-append (x ∷ xs) ys done = read_all-append xs ys (read_one x.0 x.1 done)

read_all-one : (a : Term) (m : ℕ × ℕ) (done : List Term) → read_all (marks a) done ≡ a ∷ done → read_all (marks a ++ m ∷ []) done ≡ read_one m.0 m.1 (a ∷ done)
read_all-one a m done e = read_all-append (marks a) (m ∷ []) done ∙ ap (λ s. read_one m.0 m.1 s) e

read_all-two : (a b : Term) (m : ℕ × ℕ) (done : List Term) → read_all (marks a) done ≡ a ∷ done → read_all (marks b) (a ∷ done) ≡ b ∷ a ∷ done
    → read_all ((marks a ++ marks b) ++ m ∷ []) done ≡ read_one m.0 m.1 (b ∷ a ∷ done)
read_all-two a b m done e f =
    read_all-append (marks a ++ marks b) (m ∷ []) done
    ∙ ap (λ s. read_one m.0 m.1 s) (read_all-append (marks a) (marks b) done ∙ ap (λ s. read_all (marks b) s) e ∙ f)

-- the marks give the term back
read_all-marks : (t : Term) (done : List Term) → read_all (marks t) done ≡ t ∷ done
read_all-marks (Input i) done = refl
read_all-marks (Const c) done = refl
read_all-marks (Xor a b) done = read_all-two a b (2, 0) done (read_all-marks a done) (read_all-marks b (a ∷ done))
read_all-marks (Not a) done = read_all-one a (3, 0) done (read_all-marks a done)
read_all-marks (Mask c a) done = read_all-one a (4, c) done (read_all-marks a done)
read_all-marks (And a b) done = read_all-two a b (5, 0) done (read_all-marks a done) (read_all-marks b (a ∷ done))
read_all-marks (Shl k a) done = read_all-one a (6, k) done (read_all-marks a done)
read_all-marks (Shr k a) done = read_all-one a (7, k) done (read_all-marks a done)
read_all-marks (Rotl k a) done = read_all-one a (8, k) done (read_all-marks a done)
read_all-marks (Refresh k a) done = read_all-one a (9, k) done (read_all-marks a done)

pub marks_back : (t : Term) → last_read (read_all (marks t) []) ≡ t
marks_back t = ap last_read (read_all-marks t [])

-- the code of a term: its marks
abbrev pub term_code : Coded Term
term_code = code_by (List (ℕ × ℕ)) (coded_list (coded× coded_ℕ coded_ℕ)) marks (λ ms. last_read (read_all ms [])) marks_back
