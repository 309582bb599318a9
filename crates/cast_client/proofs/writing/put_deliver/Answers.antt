use Rattle.cast_field.specs.Spelling.{byte, spelled_uid}
use Rattle.cast_client.specs.Spelling.{cast_code}
use Rattle.cast_field.proofs.Pieces.{three}
use Rattle.cast_client.proofs.writing.put_deliver.Goals as goal

pub returns : goal.returns
unfolding byte
returns c =
    rw (c.in_ok-put_slice.ensures.ok, c.in_ok-put_u8.ensures.ok, c.in_ok-put_uid.ensures, c.code_of_cast.ensures, c.as_slice.ensures.value)
    (three c.args.out.now.items (spelled_uid c.args.id) (byte (cast_code c.args.kind)) c.args.payload.now)
