-- Which messages happened before which, and which are due to a process: by what processes did.
use Rattle.std.specs.Prelude.{◌+◌, ◌++◌, Contains, IsTrue, List, ◌∷◌, ◌≡◌, ◌⊎◌}
use Rattle.cast_rules.specs.Acts.{Act}
use Rattle.cast_rules.specs.Acts.Act.{Delivered, Entered, Left, Sent}
use Rattle.cast_message.specs.declared.message.Message.{Message}
use Rattle.cast_types.specs.Counts.{CountList, is_within}
use Rattle.cast_types.specs.Names.{entry_of}
use Rattle.cast_types.specs.declared.names.GroupNo.{GroupNo}
use Rattle.cast_types.specs.declared.names.Proc.{Proc}
use Rattle.cast_types.specs.declared.names.Uid.{Uid}
use Rattle.cast_world.specs.Network.{Network}

-- what a process did, in order
abbrev pub acts_of : Network → Proc → List Act
acts_of w p = (w.at p.site).acts p.serial

-- x stands before y in a list
abbrev pub StandsBefore : {X : Type 0} → List X → X → X → Type 0
StandsBefore {X} xs x y = (a b c : List X) × (xs ≡ a ++ x ∷ b ++ y ∷ c)

-- z's sender sent y earlier, or delivered y before it sent z
abbrev pub Edge : Network → Message → Message → Type 0
Edge w y z =
    StandsBefore (acts_of w z.id.proc) (Sent y) (Sent z)
    ⊎ StandsBefore (acts_of w z.id.proc) (Delivered y) (Sent z)

-- a path of one or more edges
pub data HappenedBefore (w : Network) : Message → Message → Type 0 where
  edge : {x y : Message} → Edge w x y → HappenedBefore w x y
  path : {x y z : Message} → HappenedBefore w x y → Edge w y z → HappenedBefore w x z

-- a process that was taken into a view did not leave the group in these acts
abbrev pub NeverLeft : GroupNo → List Act → Type 0
NeverLeft g acts = Contains acts (Left g) → ⊥

-- x, of a view of a group, is due to a process that delivers m: the process enters that view at
-- some point of the run; if it does so before it delivers m, it stays a member from then on; and if
-- it enters the view after that one before it delivers m, x is within the cut with which it does
pub record IsDue (acts : List Act) (x : Uid) (m : Message) : Type 0 where
  pub entered : (cut : CountList) × Contains acts (Entered x.group x.view cut)
  pub stays : (a b c : List Act) (cut : CountList)
      → acts ≡ a ++ Entered x.group x.view cut ∷ b ++ Delivered m ∷ c → NeverLeft x.group b
  pub cut : (a b c : List Act) (cut : CountList)
      → acts ≡ a ++ Entered x.group (x.view + 1) cut ∷ b ++ Delivered m ∷ c
      → IsTrue (is_within cut (entry_of x))
