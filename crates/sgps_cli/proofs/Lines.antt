-- Lines that are written part by part.
use Rattle.std.proofs.Common.{◌≡◌, ℕ, List, ◌++◌, Option, sym, ap, ◌∙◌, append_assoc}
use Rattle.std.specs.Io.KnownBytes.{append_known}
use Rattle.sg_io.specs.Faults.{AppendsFront}
use Rattle.sgps_cli.proofs.Written.{written-twice}

-- a front of the first part is one of the whole
pub front-more : (old new : Option (List ℕ)) (a b : List ℕ) → AppendsFront old new a → AppendsFront old new (a ++ b)
front-more old new a b f = (f.0 ++ b, (f.1.0, ap (λ x. x ++ b) f.1.1 ∙ append_assoc f.1.0 f.0 b, f.1.2))

-- behind the whole first part, a front of the second is one of the whole
pub front-after : (old mid new : Option (List ℕ)) (a b : List ℕ) → mid ≡ append_known old a → AppendsFront mid new b → AppendsFront old new (a ++ b)
front-after old mid new a b e f = (f.0, (a ++ f.1.0, ap (λ x. a ++ x) f.1.1 ∙ sym (append_assoc a f.1.0 f.0), written-twice old mid new a f.1.0 e f.1.2))
