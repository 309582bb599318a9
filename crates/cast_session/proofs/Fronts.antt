-- What stands at the front before and after a call of `read`.
use Rattle.std.proofs.Common.{◌≡◌, ℕ, ◌≤◌, ◌<◌, List, [], ◌++◌, length, take, Option, Ok, refl, ap, ◌∙◌, arith}
use Rattle.std.proofs.lemmas.List.{append-nil, length-take}
use Rattle.std.specs.Io.KnownBytes.{Consumes, IsAtEnd}
use Rattle.cast_client.specs.declared.front.ClientRead.TheVariants as read
use Rattle.cast_client.specs.Reading.{client_of}
use Rattle.cast_client.proofs.Stays.{of_the_length, of_the_frame, more_is_wanting, ends_with_them}
use Rattle.cast_session.specs.declared.frames.ReadStep.{ReadStep}
use Rattle.cast_session.specs.declared.frames.ReadStep.TheVariants.{Frame, Part, End, Fault, ReadFault}
use Rattle.cast_session.specs.ReadSteps.{Added, CameTo, HasRead}

pub no_front : client_of [] ≡ Ok (read.More 4)
unfolding client_of
no_front = refl

pub some_is_wanting : (bytes : List ℕ) (n : ℕ) → client_of bytes ≡ Ok (read.More n) → 1 ≤ n
some_is_wanting bytes n e =
    elim (more_is_wanting bytes n e) [
      | of_the_length short is ↦ omega arith
      | of_the_frame said long says part is ↦ omega arith
    ]

-- where no more bytes came than were wanting, a frame ends with them
pub came_to : (step : ReadStep) (old came kept : List ℕ) (n : ℕ) (left : Option (List ℕ)) →
    client_of old ≡ Ok (read.More n) → length came ≤ n → Added step (old ++ came) kept → CameTo step (old ++ came) kept came left
came_to (Frame f) old came kept n left wants few added =
    let whole = ends_with_them old came n f added.0 wants few added.1 in
    (added.1 ∙ ap (λ (k : ℕ). Ok (read.Frame f k)) whole, added.2)
came_to Part old came kept n left wants few added = added
came_to (Fault e) old came kept n left wants few added = added
came_to End old came kept n left wants few added = absurd added
came_to ReadFault old came kept n left wants few added = absurd added

-- ---- a call of `read` with some room

pub ended : (before left : Option (List ℕ)) (old room : List ℕ) (n : ℕ) → n ≡ 0 → 0 < length room → Consumes before left (take n room) →
    (n ≡ 0 → 0 < length room → IsAtEnd left) → HasRead before left old old End
ended before left old room n none some consumed end = record {
  came = take n room;
  consumed = consumed;
  is = (rw none refl, rw (none, append-nil) refl, end none some);
}

pub has_read : (step : ReadStep) (before left : Option (List ℕ)) (old kept room : List ℕ) (n wanting : ℕ) →
    client_of old ≡ Ok (read.More wanting) → length room ≤ wanting → Consumes before left (take n room) →
    Added step (old ++ take n room) kept → HasRead before left old kept step
has_read step before left old kept room n wanting wants few consumed added =
    let short : length (take n room) ≤ wanting = omega (arith, length-take n room) in
    record { came = take n room; consumed = consumed; is = came_to step old (take n room) kept wanting left wants short added }
