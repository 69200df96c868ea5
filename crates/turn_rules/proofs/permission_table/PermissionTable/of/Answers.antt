use Rattle.std.proofs.Common.{◌≡◌, rules}
use Rattle.tail_book.specs.Lookup.{activities}
use Rattle.turn_rules.proofs.Permissions.{permission_at, permissions_length}
use Rattle.turn_rules.proofs.permission_table.PermissionTable.of.Goals as goal

pub returns : goal.returns
returns c =
    let n : c.len-n.result ≡ activities c.args.book.now = search rules in
    record {
      width = n;
      entries = rw c.in_ok-allowed.ensures (permissions_length c.args.book.now);
      each = λ k a lk la. rw (n, c.in_ok-allowed.ensures) (permission_at c.args.book.now k a lk la);
    }
