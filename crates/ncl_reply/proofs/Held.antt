-- Bytes that a load can give.
use Rattle.std.proofs.Common.{ℕ, ◌+◌, ◌<◌, List, length, replicate, Option, Some, None, IfSome, refl, arith}
use Rattle.std.proofs.lemmas.List.{length-replicate}
use Rattle.ncl_base.specs.Files.{Files, bytes_of}
use Rattle.ncl_reply.specs.Given.{IsGiven}

-- where a source holds more than n bytes under a name, or tells nothing, some load gives more than n bytes
pub given_more : (n : ℕ) (told : Option Files) (name : List ℕ) → IfSome told (λ files. n < length (bytes_of files name)) → (bytes : List ℕ) × (n < length bytes) × IsGiven told name bytes
given_more n None name h =
    let zero : ℕ = 0 in
    (replicate (n + 1) zero, omega (arith, length-replicate (n + 1) zero), tt)
given_more n (Some files) name h = (bytes_of files name, h, refl)
