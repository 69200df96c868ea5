use Rattle.std.proofs.Common.{◌≡◌, ◌∙◌, ◌++◌, ap, refl, sym, None, Some, position, unwrap_or, []}
use Rattle.tail_outside.proofs.HeldLemmas.{first_under-place, first_under-set, others-set, first_under-none, first_under-append, others-append}
use Rattle.tail_outside.proofs.mem_files.extend.Goals as goal
use Rattle.std.specs.Str.{bytes_eq}
use Rattle.tail_outside.specs.inside.Held.{bytes_under}

-- the file stands at its place, with the piece behind its bytes
pub returns-in_ok-extend_from_slice-in-Some-clause-added : goal.returns-in_ok-extend_from_slice-in-Some-clause-added
returns-in_ok-extend_from_slice-in-Some-clause-added c =
    let found : position (λ file. bytes_eq file.name c.args.name.now) c.args.files.now.items ≡ Some c.in-Some.place = sym (rw c.deref.ensures.value at c.in-Some.ensures) in
    let held : bytes_under c.args.files.now.items c.args.name.now ≡ Some c.index_mut-file.result.now.bytes =
    first_under-place (λ file. file.name) (λ file. file.bytes) c.args.files.now.items c.args.name.now c.in-Some.place c.index_mut-file.result.now c.index_mut-file.result.now found c.index_mut-file.ensures.value in
    let written = first_under-set (λ file. file.name) (λ file. file.bytes) c.args.files.now.items c.args.name.now c.in-Some.place c.index_mut-file.result.now _ found c.index_mut-file.ensures.value (ap (λ file. file.name) c.file.view_is) in
    written ∙ ap Some (c.in_ok-extend_from_slice-in-Some.ensures.items ∙ ap (λ bytes. bytes ++ c.args.piece.now) (ap (λ file. file.bytes) c.file.view_is ∙ ap (λ bytes. unwrap_or bytes []) (sym held)))

-- a write at its place passes the other names by
pub returns-in_ok-extend_from_slice-in-Some-clause-others : goal.returns-in_ok-extend_from_slice-in-Some-clause-others
returns-in_ok-extend_from_slice-in-Some-clause-others c =
    let found : position (λ file. bytes_eq file.name c.args.name.now) c.args.files.now.items ≡ Some c.in-Some.place = sym (rw c.deref.ensures.value at c.in-Some.ensures) in
    others-set (λ file. file.name) (λ file. file.bytes) c.args.files.now.items c.args.name.now c.in-Some.place c.index_mut-file.result.now _ found c.index_mut-file.ensures.value (ap (λ file. file.name) c.file.view_is)

-- nothing stood under the name, so the new file counts
pub returns-in_ok-add_file-in-None-clause-added : goal.returns-in_ok-add_file-in-None-clause-added
returns-in_ok-add_file-in-None-clause-added c =
    let added = c.in_ok-add_file-in-None.ensures.added in
    let missing : position (λ file. bytes_eq file.name c.args.name.now) c.args.files.now.items ≡ None = sym (rw c.deref.ensures.value at c.in-None.ensures) in
    let nothing : bytes_under c.args.files.now.items c.args.name.now ≡ None = first_under-none (λ file. file.name) (λ file. file.bytes) c.args.files.now.items c.args.name.now missing in
    rw (added, nothing) (first_under-append (λ file. file.name) (λ file. file.bytes) c.args.files.now.items c.args.name.now _ refl nothing)

-- the new file has no other name
pub returns-in_ok-add_file-in-None-clause-others : goal.returns-in_ok-add_file-in-None-clause-others
returns-in_ok-add_file-in-None-clause-others c =
    let added = c.in_ok-add_file-in-None.ensures.added in
    rw added (others-append (λ file. file.name) (λ file. file.bytes) c.args.files.now.items c.args.name.now _ refl)
