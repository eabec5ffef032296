-- Files by their names.
use Rattle.ncl_base.proofs.Terms.{Files, List, MemFile, [], ap, arith, bytes_at, bytes_eq, bytes_of, cond, drop, false, files_of, get_or, has_file, length, refl, subst, suc, sym, true, zero, ℕ, ◌<◌, ◌||◌, ◌∷◌, ◌≡◌, ◌≤◌}

-- a name that no file has stands for the empty file
pub absent : (files : Files) (name : List ℕ) → has_file files name ≡ false → bytes_of files name ≡ []
absent [] name e = refl
absent (file ∷ files) name e =
    elim (bytes_eq file.0 name) as (λ b. (b || has_file files name) ≡ false → cond b file.1 (bytes_of files name) ≡ []) [
      | true ↦ λ h. cc
      | false ↦ λ h. absent files name h
    ] e

-- where the file at a place has the name, it is the first of those from there on
pub first_here : (files : List MemFile) (place : ℕ) (file : MemFile) (name : List ℕ) → place < length files → get_or files place file ≡ file → bytes_eq file.name name ≡ true → bytes_of (files_of (drop place files)) name ≡ bytes_at files place
first_here [] place file name h e b = absurd (omega arith)
first_here (x ∷ files) zero file name h e b = ap (λ t. cond t x.bytes (bytes_of (files_of files) name)) (subst (λ z. bytes_eq z.name name ≡ true) (sym e) b)
first_here (x ∷ files) (suc place) file name h e b = first_here files place file name (omega arith) e b

-- at a place past the last file there are no bytes
pub past_all : (files : List MemFile) (place : ℕ) (name : List ℕ) → length files ≤ place → bytes_of (files_of (drop place files)) name ≡ bytes_at files place
past_all [] zero name h = refl
past_all [] (suc place) name h = refl
past_all (x ∷ files) zero name h = absurd (omega arith)
past_all (x ∷ files) (suc place) name h = past_all files place name (omega arith)
