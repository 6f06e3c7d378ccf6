-- The constants of RFC 1813: the program and its version (section 2.1), sizes in bytes (2.4), and the bits of fsinfo3's properties (3.3.19).
-- Assumes nothing.
use Rattle.nfs.specs.declared.constants.Constants.{Constants}

abbrev pub rfc1813 : Constants
rfc1813 =
    record {
      program = 100003;
      version = 3;
      fhsize = 64;
      cookieverfsize = 8;
      createverfsize = 8;
      writeverfsize = 8;
      link = 0x0001;
      symlink = 0x0002;
      homogeneous = 0x0008;
      cansettime = 0x0010;
    }
