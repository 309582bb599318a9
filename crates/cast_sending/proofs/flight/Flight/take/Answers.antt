use Rattle.std.proofs.Common.{◌≡◌, ◌<◌, ◌+◌, List, ℕ, [], ◌∷◌, refl, subst, sym, length, arith}
use Rattle.cast_message.specs.declared.message.Message.{Message}
use Rattle.cast_sending.specs.declared.sent.Sent.{Sent}
use Rattle.cast_sending.specs.Flights.{Flying, GoesAgain, Mark, Repeats}
use Rattle.cast_sending.specs.Marks.{mark_of, marks_of}
use Rattle.cast_sending.proofs.Parts.{TakenOut, taken_at, none_repeats, one_repeats, flying}
use Rattle.cast_sending.proofs.flight.Flight.take.Goals as goal

pub returns-in_err-left : goal.returns-in_err-left
returns-in_err-left c =
    let inside = c.self.inside in
    let sent = c.in_ok-sent.sent in
    let old = flying inside.domain inside.site inside.sent.items inside.early.items in
    let new = flying inside.domain inside.site c.remove.new.self.items inside.early.items in
    let within : c.args.place < length inside.sent.items = omega (arith, c.in_ok-sent.ensures.variant.0 refl, inside.sent.ok.0) in
    let taken : TakenOut (marks_of inside.sent.items) (mark_of sent) (marks_of c.remove.new.self.items) =
    subst (λ (l : List Sent). TakenOut (marks_of inside.sent.items) (mark_of sent) (marks_of l)) (sym c.in_ok-sent.ensures.items)
    (taken_at inside.sent.items c.args.place sent within c.in_ok-sent.ensures.value) in
    rw c.from_residual-in_err-left.ensures
    (subst (λ (f : Flying). Repeats f new []) c.self.view_is (none_repeats old new (mark_of sent) taken refl refl refl))

pub returns-in_err-copy : goal.returns-in_err-copy
returns-in_err-copy c =
    let inside = c.self.inside in
    let sent = c.in_ok-sent.sent in
    let old = flying inside.domain inside.site inside.sent.items inside.early.items in
    let new = flying inside.domain inside.site c.remove.new.self.items inside.early.items in
    let within : c.args.place < length inside.sent.items = omega (arith, c.in_ok-sent.ensures.variant.0 refl, inside.sent.ok.0) in
    let taken : TakenOut (marks_of inside.sent.items) (mark_of sent) (marks_of c.remove.new.self.items) =
    subst (λ (l : List Sent). TakenOut (marks_of inside.sent.items) (mark_of sent) (marks_of l)) (sym c.in_ok-sent.ensures.items)
    (taken_at inside.sent.items c.args.place sent within c.in_ok-sent.ensures.value) in
    rw c.from_residual-in_err-copy.ensures
    (subst (λ (f : Flying). Repeats f new []) c.self.view_is (none_repeats old new (mark_of sent) taken refl refl refl))

pub returns : goal.returns
returns c =
    let inside = c.self.inside in
    let sent = c.in_ok-sent.sent in
    let left = c.in_ok-left.left in
    let old = flying inside.domain inside.site inside.sent.items inside.early.items in
    let between = flying inside.domain inside.site c.remove.new.self.items inside.early.items in
    let within : c.args.place < length inside.sent.items = omega (arith, c.in_ok-sent.ensures.variant.0 refl, inside.sent.ok.0) in
    let less : sent.left ≡ left + 1 = omega (arith, c.in_ok-left.ensures) in
    let taken : TakenOut (marks_of inside.sent.items) (mark_of sent) (marks_of c.remove.new.self.items) =
    subst (λ (l : List Sent). TakenOut (marks_of inside.sent.items) (mark_of sent) (marks_of l)) (sym c.in_ok-sent.ensures.items)
    (taken_at inside.sent.items c.args.place sent within c.in_ok-sent.ensures.value) in
    let fewer : TakenOut (marks_of inside.sent.items) (sent.message, left + 1) (marks_of c.remove.new.self.items) =
    subst (λ (n : ℕ). TakenOut (marks_of inside.sent.items) (sent.message, n) (marks_of c.remove.new.self.items)) less taken in
    subst (λ (f : Flying). Repeats f c.go_again.new.self (c.in_ok-copy.copy ∷ [])) c.self.view_is
    (subst (λ (m : Message). Repeats old c.go_again.new.self (m ∷ [])) (sym c.in_ok-copy.ensures)
    (one_repeats old between c.go_again.new.self sent.message left fewer refl refl refl
    (subst (λ (m : Mark). GoesAgain between m c.go_again.new.self) c.sent_again.ensures c.go_again.ensures)))
