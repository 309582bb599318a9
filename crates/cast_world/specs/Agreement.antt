-- How those who share a view agree: who passes to the next, who is within it, what is delivered.
-- What processes delivered of the view is said in order.
use Rattle.std.specs.List.{flat_map, list_any}
use Rattle.std.specs.Prelude.{◌&&◌, ◌+◌, ◌++◌, ◌==◌, Bool, Contains}
use Rattle.std.specs.Prelude.{List, false, filter, ℕ, ◌∷◌, ◌≡◌}
use Rattle.cast_rules.specs.Acts.{Act}
use Rattle.cast_rules.specs.Acts.Act.{Entered}
use Rattle.cast_rules.specs.Noted.{abcasts_by}
use Rattle.cast_rules.specs.Order.{told_by}
use Rattle.cast_message.specs.Bodies.{kind_of}
use Rattle.cast_message.specs.Membership.{Membership}
use Rattle.cast_message.specs.Tail.{Tail}
use Rattle.cast_order.specs.Order.{known_order}
use Rattle.cast_types.specs.Counts.{CountList}
use Rattle.cast_types.specs.Names.{Entry, group_eq, is_atomic, uid_eq}
use Rattle.cast_types.specs.declared.names.GroupNo.{GroupNo}
use Rattle.cast_types.specs.declared.names.Proc.{Proc}
use Rattle.cast_types.specs.declared.names.SiteNo.{SiteNo}
use Rattle.cast_types.specs.declared.names.Uid.{Uid}
use Rattle.cast_view.specs.MemberSide.{is_pending}
use Rattle.cast_world.specs.HappenedBefore.{NeverLeft, acts_of}
use Rattle.cast_world.specs.Network.{Network}
use Rattle.cast_message.specs.declared.site.SiteFrame.TheVariants as frame

-- Who shares a view

-- a process passes from a view to the next: it entered the one and later the other, and did not
-- leave the group in between
abbrev pub Passes : Network → Proc → GroupNo → ℕ → Type 0
Passes w p g view =
    (before cut : CountList) × (a b c : List Act)
    × (acts_of w p ≡ a ++ Entered g view before ∷ b ++ Entered g (view + 1) cut ∷ c) × NeverLeft g b

-- a process is within a view: it entered it and has not left the group since, and at its site no
-- Install of the next view waits or was completed
pub record IsWithin (w : Network) (p : Proc) (g : GroupNo) (view : ℕ) : Type 0 where
  pub entered : (cut : CountList)
      × (a b : List Act)
      × (acts_of w p ≡ a ++ Entered g view cut ∷ b)
      × NeverLeft g b
  pub current : ((w.at p.site).group g).number ≡ view
  pub waits : is_pending ((w.at p.site).group g) ≡ false

-- What processes delivered of it

-- what each process delivered, in order
abbrev pub delivered_of : Network → Proc → List Uid
delivered_of w p = ((w.at p.site).process p.serial).delivered

-- a message's id is of a view of a group
abbrev pub is_in : GroupNo → ℕ → Uid → Bool
is_in g view u = group_eq u.group g && (u.view == view)

-- the ids of a view among these
abbrev pub of_view : GroupNo → ℕ → List Uid → List Uid
of_view g view ids = filter (is_in g view) ids

-- an id is that of an ABCAST: the sender's site has an ABCAST of this id
abbrev pub is_abcast : Network → Uid → Bool
is_abcast w u = list_any (λ m. uid_eq m.id u && is_atomic (kind_of m.body)) (w.at u.proc.site).got

-- the ABCASTs of a view among these
abbrev pub abcasts_of_view : Network → GroupNo → ℕ → List Uid → List Uid
abcasts_of_view w g view ids = filter (is_abcast w) (of_view g view ids)

-- the ABCASTs of a view that a process delivered, in order, by what it did
abbrev pub abcasts_in : Network → Proc → GroupNo → ℕ → List Uid
abcasts_in w p g view = of_view g view (abcasts_by (acts_of w p))

-- one list is the beginning of another
abbrev pub IsPrefix : {X : Type 0} → List X → List X → Type 0
IsPrefix {X} xs ys = (rest : List X) × (xs ++ rest ≡ ys)

-- What sites know of its order

-- the order of a view, as the set-order messages that a site received tell it
abbrev pub order_at : Network → SiteNo → GroupNo → ℕ → List Entry
order_at w s g view =
    known_order (flat_map (λ m. told_by m.body) (filter (λ m. is_in g view m.id) (w.at s).got))

-- an Install of a view was sent, with these members and this end of the order of the view before
abbrev pub WasInstalled : Network → GroupNo → ℕ → Membership → Tail → Type 0
WasInstalled w g view members tail =
    (from to : SiteNo) × (request : ℕ) × (cut : CountList)
    × Contains w.sent
    (record { from = from; to = to; frame = frame.Install g view members request cut tail })

-- a site has a member in a view: an Install of the view names a process of the site
abbrev pub HasMember : Network → SiteNo → GroupNo → ℕ → Type 0
HasMember w s g view =
    (members : Membership) × (tail : Tail) × (p : Proc) × WasInstalled w g view members tail
    × Contains members.list p × (p.site ≡ s)
