use Rattle.std.proofs.Common.{◌≡◌, ◌∷◌, ap, refl, subst, sym, ◌∙◌}
use Rattle.kv_core.specs.Range.{covers}
use Rattle.drive_form.specs.Form.{FitEach, FitsMutation, FitsPair, IsHostTold, HostTold, counted, mutation_bytes, pair_bytes}
use Rattle.drive_form.specs.Refused.{ExplainsText}
use Rattle.drive_form.specs.Spelled.{AreCommandsOf}
use Rattle.drive_form.proofs.Telling.{none_pairs, none_written, part_refused, text_refused, told_read}
use Rattle.drive_form.proofs.given_bytes.given_of.Goals as goal

pub returns-in_err-pairs-clause-err : goal.returns-in_err-pairs-clause-err
returns-in_err-pairs-clause-err c =
    let bytes = c.args.bytes.now in
    let form = c.in_ok-byte.field-0 in
    let left = c.byte.new.self.rest.now in
    let read : bytes ≡ form ∷ left = sym c.new-reader.ensures ∙ c.in_ok-byte.ensures.ok in
    let known : form ≡ 1 = c.if-branch-ne-FORM.false in
    let left3 = c.ranges_of.new.reader.rest.now in
    part_refused (counted pair_bytes) (FitEach FitsPair) bytes left3 c.from_residual-in_err-pairs.result c.in_err-pairs.field-0.0 c.from_residual-in_err-pairs.ensures
    (left, read ∙ ap (λ n. n ∷ left) known)
    (none_pairs bytes form left read known c.in_ok-version.version c.number.new.self.rest.now c.in_ok-version.ensures.fits c.in_ok-version.ensures.ok c.in_ok-ranges.ranges.items left3
    c.in_ok-ranges.ensures.fits c.in_ok-ranges.ensures.ok) c.in_err-pairs.ensures.err

pub returns-in_err-written-clause-err : goal.returns-in_err-written-clause-err
returns-in_err-written-clause-err c =
    let bytes = c.args.bytes.now in
    let form = c.in_ok-byte.field-0 in
    let left = c.byte.new.self.rest.now in
    let read : bytes ≡ form ∷ left = sym c.new-reader.ensures ∙ c.in_ok-byte.ensures.ok in
    let known : form ≡ 1 = c.if-branch-ne-FORM.false in
    let left4 = c.pairs_of.new.reader.rest.now in
    part_refused (counted mutation_bytes) (FitEach FitsMutation) bytes left4 c.from_residual-in_err-written.result c.in_err-written.field-0.0 c.from_residual-in_err-written.ensures
    (left, read ∙ ap (λ n. n ∷ left) known)
    (none_written bytes form left read known c.in_ok-version.version c.number.new.self.rest.now c.in_ok-version.ensures.fits c.in_ok-version.ensures.ok c.in_ok-ranges.ranges.items
    c.ranges_of.new.reader.rest.now c.in_ok-ranges.ensures.fits c.in_ok-ranges.ensures.ok c.in_ok-pairs.pairs.items left4 c.in_ok-pairs.ensures.fits c.in_ok-pairs.ensures.ok)
    c.in_err-written.ensures.err

pub returns-in_err-commands-clause-err : goal.returns-in_err-commands-clause-err
returns-in_err-commands-clause-err c =
    let bytes = c.args.bytes.now in
    let form = c.in_ok-byte.field-0 in
    let left = c.byte.new.self.rest.now in
    let read : bytes ≡ form ∷ left = sym c.new-reader.ensures ∙ c.in_ok-byte.ensures.ok in
    let known : form ≡ 1 = c.if-branch-ne-FORM.false in
    let left5 = c.written_of.new.reader.rest.now in
    let told : HostTold = record { version = c.in_ok-version.version; ranges = c.in_ok-ranges.ranges.items; pairs = c.in_ok-pairs.pairs.items; written = c.in_ok-written.written.items; text = left5 } in
    let is : IsHostTold bytes told =
    told_read bytes form left read known c.in_ok-version.version c.number.new.self.rest.now c.in_ok-version.ensures.fits c.in_ok-version.ensures.ok c.in_ok-ranges.ranges.items
    c.ranges_of.new.reader.rest.now c.in_ok-ranges.ensures.fits c.in_ok-ranges.ensures.ok c.in_ok-pairs.pairs.items c.pairs_of.new.reader.rest.now c.in_ok-pairs.ensures.fits
    c.in_ok-pairs.ensures.ok c.in_ok-written.written.items left5 c.in_ok-written.ensures.fits c.in_ok-written.ensures.ok in
    text_refused bytes told c.from_residual-in_err-commands.result c.in_err-commands.field-0.0 c.from_residual-in_err-commands.ensures (left, read ∙ ap (λ n. n ∷ left) known) is
    (subst (λ text. ExplainsText text c.in_err-commands.field-0.0) c.rest.ensures c.in_err-commands.ensures.err)

pub returns-clause-ok : goal.returns-clause-ok
returns-clause-ok c =
    let bytes = c.args.bytes.now in
    let form = c.in_ok-byte.field-0 in
    let left = c.byte.new.self.rest.now in
    let read : bytes ≡ form ∷ left = sym c.new-reader.ensures ∙ c.in_ok-byte.ensures.ok in
    let left5 = c.written_of.new.reader.rest.now in
    record {
      told = record { version = c.in_ok-version.version; ranges = c.in_ok-ranges.ranges.items; pairs = c.in_ok-pairs.pairs.items; written = c.in_ok-written.written.items; text = left5 };
      read =
          told_read bytes form left read c.if-branch-ne-FORM.false c.in_ok-version.version c.number.new.self.rest.now c.in_ok-version.ensures.fits c.in_ok-version.ensures.ok c.in_ok-ranges.ranges.items
          c.ranges_of.new.reader.rest.now c.in_ok-ranges.ensures.fits c.in_ok-ranges.ensures.ok c.in_ok-pairs.pairs.items c.pairs_of.new.reader.rest.now c.in_ok-pairs.ensures.fits
          c.in_ok-pairs.ensures.ok c.in_ok-written.written.items left5 c.in_ok-written.ensures.fits c.in_ok-written.ensures.ok;
      version = refl;
      covered = λ key. c.in_ok-covered.ensures key ∙ ap (λ ranges. covers ranges key) c.as_slice.ensures.value;
      kept = c.in_ok-pairs-2.ensures;
      written = refl;
      commands = subst (λ text. AreCommandsOf text c.in_ok-commands.commands.items) c.rest.ensures c.in_ok-commands.ensures.ok;
    }
