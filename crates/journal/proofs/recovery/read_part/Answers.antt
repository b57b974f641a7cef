use Rattle.std.proofs.Common.{◌≡◌, ◌+◌, ◌-◌, List, ℕ, length, drop, min, sym, ◌∙◌, ap, arith, length-take}
use Rattle.journal.specs.Form.{nonzeros}
use Rattle.journal.specs.Block.{counts_torn, most_said}
use Rattle.journal.proofs.Firsts.{torn_by, part_torn, part_damaged}
use Rattle.journal.proofs.Bounds.{not_by_counts, not_by_more, not_by_rest, may_short, may_from}
use Rattle.journal.proofs.Counting.{counted_there, rest_there, most_there}
use Rattle.journal.proofs.recovery.read_part.Goals as goal

pub returns-then-not-is_torn-clause-found : goal.returns-then-not-is_torn-clause-found
returns-then-not-is_torn-clause-found g c =
    let bytes = drop (c.args.at + 1) (g.D.Device.seen c.args.device.now) in
    let counts = sym (torn_by 64 bytes (omega arith)) ∙ ap counts_torn (sym c.requires.behind) ∙ sym c.is_torn.ensures ∙ c.if-not-is_torn.true in
    sym (part_damaged bytes (not_by_counts bytes counts))

pub returns-then-behind-lt32-clause-found : goal.returns-then-behind-lt32-clause-found
returns-then-behind-lt32-clause-found g c =
    let bytes = drop (c.args.at + 1) (g.D.Device.seen c.args.device.now) in
    let counts = sym (torn_by 64 bytes (omega arith)) ∙ ap counts_torn (sym c.requires.behind) ∙ sym c.is_torn.ensures ∙ c.if-not-is_torn.false in
    sym (part_torn bytes (may_short bytes (omega (arith, c.if-behind-lt32.true, ap length c.requires.behind, length-take 64 bytes)) counts))

pub returns-then-count-most_said-clause-found : goal.returns-then-count-most_said-clause-found
returns-then-count-most_said-clause-found g c =
    let file = g.D.Device.seen c.args.device.now in
    let bytes = drop (c.args.at + 1) file in
    let most : c.most_said.result ≡ most_said (drop 24 bytes) = c.most_said.ensures ∙ most_there bytes c.args.behind.now 24 c.requires.behind (omega arith) in
    let count : c.in_ok-count.count ≡ nonzeros (drop 32 bytes) = c.in_ok-count.ensures.count ∙ counted_there file c.args.at in
    sym (part_damaged bytes (not_by_more bytes (omega (arith, most, count, c.if-count-most_said.true))))

pub returns-then-rest-gt0-clause-found : goal.returns-then-rest-gt0-clause-found
returns-then-rest-gt0-clause-found g c =
    let file = g.D.Device.seen c.args.device.now in
    let bytes = drop (c.args.at + 1) file in
    let most : c.most_said-2.result ≡ most_said (drop 16 bytes) = c.most_said-2.ensures ∙ most_there bytes c.args.behind.now 16 c.requires.behind (omega arith) in
    let least : c.min-most.result ≡ min (most_said (drop 16 bytes)) (length file - c.args.at) = omega (arith, c.min-most.ensures, most, c.requires.all) in
    let rest : c.in_ok-rest.rest ≡ nonzeros (drop (64 + most_said (drop 16 bytes)) bytes) =
    c.in_ok-rest.ensures.count ∙ ap (λ (f : List ℕ). nonzeros (drop (c.args.at + 65 + c.min-most.result) f)) c.count_from.ensures.reads.same ∙ rest_there file c.args.at (most_said (drop 16 bytes)) c.min-most.result least in
    sym (part_damaged bytes (not_by_rest bytes (λ none. absurd (omega (arith, none, rest, c.if-rest-gt0.true)))))

pub returns-clause-found : goal.returns-clause-found
returns-clause-found g c =
    let file = g.D.Device.seen c.args.device.now in
    let bytes = drop (c.args.at + 1) file in
    let counts = sym (torn_by 64 bytes (omega arith)) ∙ ap counts_torn (sym c.requires.behind) ∙ sym c.is_torn.ensures ∙ c.if-not-is_torn.false in
    let most : c.most_said.result ≡ most_said (drop 24 bytes) = c.most_said.ensures ∙ most_there bytes c.args.behind.now 24 c.requires.behind (omega arith) in
    let count : c.in_ok-count.count ≡ nonzeros (drop 32 bytes) = c.in_ok-count.ensures.count ∙ counted_there file c.args.at in
    let most_len : c.most_said-2.result ≡ most_said (drop 16 bytes) = c.most_said-2.ensures ∙ most_there bytes c.args.behind.now 16 c.requires.behind (omega arith) in
    let least : c.min-most.result ≡ min (most_said (drop 16 bytes)) (length file - c.args.at) = omega (arith, c.min-most.ensures, most_len, c.requires.all) in
    let rest : c.in_ok-rest.rest ≡ nonzeros (drop (64 + most_said (drop 16 bytes)) bytes) =
    c.in_ok-rest.ensures.count ∙ ap (λ (f : List ℕ). nonzeros (drop (c.args.at + 65 + c.min-most.result) f)) c.count_from.ensures.reads.same ∙ rest_there file c.args.at (most_said (drop 16 bytes)) c.min-most.result least in
    sym (part_torn bytes (may_from bytes (record {
      counts = counts;
      fewer = omega (arith, most, count, c.if-count-most_said.false);
      nothing = omega (arith, rest, c.if-rest-gt0.false);
    })))
