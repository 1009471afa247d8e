-- What is said of a name that is no type.
use Rattle.std.specs.Prelude.{◌||◌, [], codes, if◌then◌else◌}
use Rattle.std.specs.Str.{bytes_eq}
use Rattle.ls_explanations.specs.Tokens.{Bytes}

-- classes of keys and of values
abbrev pub key_lesson : Bytes → Bytes
key_lesson name =
    if bytes_eq name (codes "Object")
    then codes "`Object` isn't supported: declare a class, as `class Key { }`, and use `new Key()`\n"
    else (if bytes_eq name (codes "record")
    then codes "`record` isn't supported: use a class with fields and a constructor\n"
    else [])

abbrev pub value_lesson : Bytes → Bytes
value_lesson name =
    if bytes_eq name (codes "T") || bytes_eq name (codes "E") || bytes_eq name (codes "K")
    || bytes_eq name (codes "V")
    then codes "type parameters aren't supported: use `int`, or a class of the text\n"
    else (if bytes_eq name (codes "var")
    then codes "`var` isn't supported: write the type\n"
    else (if bytes_eq name (codes "String") || bytes_eq name (codes "Integer") || bytes_eq name (codes "Boolean")
    then codes "this class isn't supported: use `int`, `boolean` or a class of the text\n"
    else []))

abbrev pub gate_lesson : Bytes → Bytes
gate_lesson name =
    if bytes_eq name (codes "Semaphore") || bytes_eq name (codes "CountDownLatch")
    then codes "this class isn't supported: write one with synchronized methods\n"
    else value_lesson name

abbrev pub thread_lesson : Bytes → Bytes
thread_lesson name =
    if bytes_eq name (codes "Thread") || bytes_eq name (codes "Runnable")
    then codes "threads stand in the thread program, as `thread A { c.m(); }`: remove this\n"
    else gate_lesson name

abbrev pub condition_lesson : Bytes → Bytes
condition_lesson name =
    if bytes_eq name (codes "Condition")
    then codes
    "conditions aren't supported: use `while (..) { lock.unlock(); lock.lock(); }` in place of `await`\n"
    else thread_lesson name

abbrev pub lock_lesson : Bytes → Bytes
lock_lesson name =
    if bytes_eq name (codes "ReadWriteLock") || bytes_eq name (codes "ReentrantReadWriteLock")
    then codes "ReentrantLock is the only lock: use synchronized methods instead\n"
    else condition_lesson name

abbrev pub flag_lesson : Bytes → Bytes
flag_lesson name =
    if bytes_eq name (codes "AtomicBoolean")
    then codes
    "this class isn't supported: use a `boolean` under a lock, or `Flag` of docs/LANGUAGE.md\n"
    else lock_lesson name

abbrev pub number_lesson : Bytes → Bytes
number_lesson name =
    if bytes_eq name (codes "AtomicInteger") || bytes_eq name (codes "AtomicLong")
    then codes
    "this class isn't supported: use an `int` under a lock, or `AtomicInt` of docs/LANGUAGE.md\n"
    else flag_lesson name

abbrev pub atomic_lesson : Bytes → Bytes
atomic_lesson name =
    if bytes_eq name (codes "AtomicReference") || bytes_eq name (codes "AtomicStampedReference")
    then codes "this class isn't supported: use AtomicMarkableReference, with `false` for each mark\n"
    else number_lesson name
