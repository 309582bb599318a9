-- The reply to a request, and the number that it bears.
use Rattle.std.specs.Prelude.{ℕ, Option, Some, None}
use Rattle.cast_types.specs.declared.refusal.Refusal.{Refusal}
use Rattle.cast_types.specs.Refusals.{refusal_code}
use Rattle.cast_message.specs.declared.client.Request.{Request}
use Rattle.cast_message.specs.declared.client.Request.TheVariants.{Join, Leave, Cast, Pass}
use Rattle.cast_message.specs.declared.client.Push.{Push}
use Rattle.cast_message.specs.declared.client.Push.TheVariants.{Reply}

-- 0 says that a request is done
abbrev pub reply_code : Option Refusal → ℕ
reply_code None = 0
reply_code (Some refusal) = refusal_code refusal

abbrev pub tag_of : Request → ℕ
tag_of (Join tag group) = tag
tag_of (Leave tag group) = tag
tag_of (Cast tag group kind payload) = tag
tag_of (Pass tag group to) = tag

-- it bears the request's tag, and why the request is refused, if it is
abbrev pub reply_to : Request → Option Refusal → Push
reply_to request refusal = Reply (tag_of request) refusal
