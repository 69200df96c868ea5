-- The names of a run of the checker as contracts see them, and the fronts of what is held. For src/words.rt and src/run.rt.
use Rattle.run_frame.specs.inside.TableFiles.{front, fronts, names_seen}
use Rattle.tailcheck.specs.Texts.{CheckNamesSeen, SubjectName, PlanName, CertificateName, SubjectSeen, PlanBytes, CertificateBytes, TextsSeen}
use Rattle.tailcheck.specs.declared.words.CheckNames.{CheckNames}
use Rattle.tailcheck.specs.declared.words.Subject.{Subject}
use Rattle.tailcheck.specs.declared.words.Subject.TheVariants.{Plan, Certificate}

-- the names, as bytes
abbrev pub subject_seen : Subject → SubjectName
subject_seen (Plan name) = PlanName name.now
subject_seen (Certificate name) = CertificateName name.now

abbrev pub check_names_seen : CheckNames → CheckNamesSeen
check_names_seen names = record { tables = names_seen names.tables; subject = subject_seen names.subject }

-- as much of a plan's file as is read; of a certificate it is told what was read where it is judged
abbrev pub subject_front : SubjectSeen → SubjectSeen
subject_front (PlanBytes bytes) = PlanBytes (front bytes)
subject_front (CertificateBytes text) = CertificateBytes text

-- as much of the tables and of what is judged as is read
abbrev pub text_fronts : TextsSeen → TextsSeen
text_fronts texts = record { tables = fronts texts.tables; subject = subject_front texts.subject }
