use Rattle.std.proofs.Common.{◌≡◌, ◌∙◌, None, sym, rules}
use Rattle.std.specs.List.{position}
use Rattle.cast_message.specs.Receipts.{key_eq}
use Rattle.cast_index.proofs.Rises.{removed_is, one_less, none_less, none_fewer, none_removed}
use Rattle.cast_ready.specs.declared.offered.Offered.{Offered}
use Rattle.cast_delay.specs.Offers.{key_of}
use Rattle.cast_delay.proofs.offers.forget_found.Goals as goal

-- where nothing is under the key
missing : (c : goal.In_default) → position (λ (o : Offered). key_eq o.key c.args.key) c.args.messages.now.items ≡ None
missing c = search rules

pub returns-in_default-clause-items : goal.returns-in_default-clause-items
returns-in_default-clause-items c = sym (none_removed key_of c.args.key.0 c.args.messages.now.items (missing c))

pub returns-in_default-clause-first : goal.returns-in_default-clause-first
returns-in_default-clause-first c =
    sym (none_fewer key_of c.args.key.0 c.args.messages.now.items c.args.first (missing c) c.requires.first)

-- where a message is
pub returns-then-place-first-clause-items : goal.returns-then-place-first-clause-items
returns-then-place-first-clause-items c =
    c.take_out.ensures ∙ removed_is key_of c.args.key.0 c.args.messages.now.items c.in-Some.place c.requires.rising (search rules)

pub returns-else-place-first-clause-items : goal.returns-else-place-first-clause-items
returns-else-place-first-clause-items c =
    c.take_out.ensures ∙ removed_is key_of c.args.key.0 c.args.messages.now.items c.in-Some.place c.requires.rising (search rules)

pub returns-then-place-first-clause-first : goal.returns-then-place-first-clause-first
returns-then-place-first-clause-first c =
    sym (one_less key_of c.args.key.0 c.args.messages.now.items c.in-Some.place c.args.first c.requires.rising (search rules)
    c.if-place-first.true c.requires.first)

pub returns-else-place-first-clause-first : goal.returns-else-place-first-clause-first
returns-else-place-first-clause-first c =
    sym (none_less key_of c.args.key.0 c.args.messages.now.items c.in-Some.place c.args.first (search rules)
    c.if-place-first.false c.requires.first)
