-- What was sent last.
use Rattle.std.specs.Prelude.{◌≡◌, Option, Some, IfSome}
use Rattle.cast_message.specs.declared.site.SiteFrame.{SiteFrame}
use Rattle.cast_timer.specs.declared.key.OwedKey.{OwedKey}
use Rattle.cast_rules.specs.Rules.Owing.{frame_for}
use Rattle.cast_domain.specs.Records.{Records}
use Rattle.cast_domain.specs.Calls.{records}

-- a frame is what its key stands for
abbrev pub IsFrameOf : Records → Option (OwedKey × SiteFrame) → Type 0
IsFrameOf r last = IfSome last (λ l. frame_for records r l.0 ≡ Some l.1)
