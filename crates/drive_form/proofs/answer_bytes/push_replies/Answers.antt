use Rattle.std.proofs.Common.{[], ◌∷◌, ◌++◌, length, refl}
use Rattle.std.specs.Int.{w32, to_le_bytes}
use Rattle.drive_form.specs.Form.{IsShort, sized}
use Rattle.drive_form.proofs.Spelling.{list_more, texts_more}
use Rattle.drive_form.proofs.Unread.{fits_more}
use Rattle.drive_form.proofs.answer_bytes.push_replies.Goals as goal

pub loop-reply-preserved : goal.loop-reply-preserved
loop-reply-preserved c =
    let texts = c.loop-reply.invariant.0 in
    let text = c.as_bytes.result.now in
    let count = to_le_bytes w32 (length c.args.replies.now) in (
      texts ++ text ∷ [],
      texts_more texts text c.args.replies.now c.loop-reply.reply-index c.reply-item.result c.loop-reply-test.true c.loop-reply.invariant.1,
      list_more sized c.args.out.now.items count texts (texts ++ text ∷ []) text c.loop-reply.out.items c.push_bytes.new.out.items refl c.in_ok-push_bytes.ensures.ok
          c.loop-reply.invariant.2,
      fits_more IsShort texts (texts ++ text ∷ []) text refl c.loop-reply.invariant.3 c.in_ok-push_bytes.ensures.fits,
    )
