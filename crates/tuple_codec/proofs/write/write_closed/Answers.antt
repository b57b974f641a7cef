use Rattle.tuple_codec.proofs.Plains.{closed_in_parts}
use Rattle.tuple_codec.proofs.write.write_closed.Goals as goal

pub returns : goal.returns
returns c =
    closed_in_parts c.args.out.now.items c.args.code c.args.bytes.now _ _ _ _ _ _ c.plain_count.result c.plain_count.ensures.plain c.split_at.ensures.front c.split_at.ensures.back c.in_ok-push.ensures.items c.in_ok-extend_from_slice.ensures.items c.in_ok-write_escaped.ensures c.in_ok-push-2.ensures.items
