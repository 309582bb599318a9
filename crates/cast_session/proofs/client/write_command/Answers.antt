use Rattle.std.proofs.Common.{rules, ◌≡◌, List, ℕ, Option, Result, subst}
use Rattle.std.specs.Prelude.{IsErr}
use Rattle.std.specs.Io.KnownBytes.{Appends}
use Rattle.cast_device.specs.Writing.{Writes, WrotePart}
use Rattle.cast_device.proofs.Written.{writes_part}
use Rattle.cast_session.proofs.client.write_command.Goals as goal

part_of : {T E : Type 0} {a b : Option (List ℕ)} (r : Result T E) → IsErr r → (given bytes : List ℕ) → WrotePart a b given → given ≡ bytes →
    Writes a b r bytes
part_of {T} {E} {a} {b} r err given bytes part is = writes_part r err (subst (λ x. WrotePart a b x) is part)

all_of : (a b : Option (List ℕ)) (given bytes : List ℕ) → Appends a b given → given ≡ bytes → Appends a b bytes
all_of a b given bytes all is = subst (λ x. Appends a b x) is all

pub returns-in_err-write_whole-clause-written : goal.returns-in_err-write_whole-clause-written
returns-in_err-write_whole-clause-written g c =
    part_of c.from_residual-in_err-write_whole.result c.from_residual-in_err-write_whole.ensures.0 _ _
    (rw c.begin.ensures.device at c.in_err-write_whole.ensures.written) (search rules)

pub returns-clause-written : goal.returns-clause-written
returns-clause-written g c =
    all_of _ _ _ _ (rw c.begin.ensures.device at c.in_ok-write_whole.ensures.written) (search rules)
