use Rattle.std.proofs.Common.{◌≡◌, ◌∙◌, ap, refl, sym, None, Some, position}
use Rattle.tail_outside.proofs.HeldLemmas.{first_under-set, others-set, first_under-none, first_under-append, others-append}
use Rattle.tail_outside.proofs.mem_files.empty.Goals as goal
use Rattle.std.specs.Str.{bytes_eq}

-- the file stands at its place, without its bytes
pub returns-in-Some-clause-emptied : goal.returns-in-Some-clause-emptied
returns-in-Some-clause-emptied c =
    let found : position (λ file. bytes_eq file.name c.args.name.now) c.args.files.now.items ≡ Some c.in-Some.place = sym (rw c.deref.ensures.value at c.in-Some.ensures) in
    first_under-set (λ file. file.name) (λ file. file.bytes) c.args.files.now.items c.args.name.now c.in-Some.place c.index_mut-emptied.result.now _ found c.index_mut-emptied.ensures.value (ap (λ file. file.name) c.emptied.view_is) ∙ ap Some c.clear.ensures.items

-- a write at its place passes the other names by
pub returns-in-Some-clause-others : goal.returns-in-Some-clause-others
returns-in-Some-clause-others c =
    let found : position (λ file. bytes_eq file.name c.args.name.now) c.args.files.now.items ≡ Some c.in-Some.place = sym (rw c.deref.ensures.value at c.in-Some.ensures) in
    others-set (λ file. file.name) (λ file. file.bytes) c.args.files.now.items c.args.name.now c.in-Some.place c.index_mut-emptied.result.now _ found c.index_mut-emptied.ensures.value (ap (λ file. file.name) c.emptied.view_is)

-- nothing stood under the name, so the new file counts
pub returns-in_ok-add_file-in-None-clause-emptied : goal.returns-in_ok-add_file-in-None-clause-emptied
returns-in_ok-add_file-in-None-clause-emptied c =
    let added = c.in_ok-add_file-in-None.ensures.added in
    let missing : position (λ file. bytes_eq file.name c.args.name.now) c.args.files.now.items ≡ None = sym (rw c.deref.ensures.value at c.in-None.ensures) in
    rw added (first_under-append (λ file. file.name) (λ file. file.bytes) c.args.files.now.items c.args.name.now _ refl (first_under-none (λ file. file.name) (λ file. file.bytes) c.args.files.now.items c.args.name.now missing))

-- the new file has no other name
pub returns-in_ok-add_file-in-None-clause-others : goal.returns-in_ok-add_file-in-None-clause-others
returns-in_ok-add_file-in-None-clause-others c =
    let added = c.in_ok-add_file-in-None.ensures.added in
    rw added (others-append (λ file. file.name) (λ file. file.bytes) c.args.files.now.items c.args.name.now _ refl)
